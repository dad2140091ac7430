use Rattle.std.proofs.Common.{◌≡◌, ℕ, ◌+◌, List, ◌∷◌, ◌++◌, take, drop, replicate, refl, ap, ◌∙◌}
use Rattle.hb_lemmas.specs.Numbers.{big_endian}
use Rattle.hb_space.specs.declared.form.TheConstants.{VERSION}
use Rattle.hb_super.specs.Superblocks.{magic}
use Rattle.hb_super.proofs.body.body_of.Goals as goal

-- the bytes with those of a number at a place
abbrev put : ℕ → ℕ → ℕ → List ℕ → List ℕ
put width at n bytes = take at bytes ++ big_endian width n ++ drop (at + width) bytes

-- and so over bytes that are known
put_known : (at n : ℕ) (bytes known : List ℕ) → bytes ≡ known → put 4 at n bytes ≡ put 4 at n known
put_known at n bytes known is = ap (put 4 at n) is

pub returns : goal.returns
unfolding big_endian
returns c =
    let meta = c.args.meta.now in
    c.give_u32-6.ensures ∙ ap (put 4 36 meta.free) (
    c.give_u32-5.ensures ∙ ap (put 4 32 meta.live) (
    c.give_u32-4.ensures ∙ ap (put 4 28 meta.high) (
    c.give_u32-3.ensures ∙ ap (put 4 24 meta.root) (
    c.give_u16-2.ensures ∙ ap (put 2 22 meta.icap) (
    c.give_u16.ensures ∙ ap (put 2 20 meta.dcap) (
    c.give_u32-2.ensures ∙ ap (put 4 16 meta.log) (
    c.give_u32.ensures ∙ put_known 12 meta.pages _ (magic ++ VERSION ∷ c.args.turn ∷ meta.k ∷ meta.height ∷ replicate 28 0) (rw c.copy_from_slice.ensures.after refl))))))))
