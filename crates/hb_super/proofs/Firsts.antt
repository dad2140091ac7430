-- The superblock of a new file.
use Rattle.std.proofs.Common.{◌≡◌, ◌≢◌, inr, ℕ, ◌≤◌, List, ◌∷◌, length, get_or, sym, ap, ◌∙◌, subst, arith}
use Rattle.hb_disk.specs.Model.{overwritten}
use Rattle.hb_disk.specs.Calls.{open_gate}
use Rattle.hb_disk.proofs.Facts.OverwrittenLaws.{overwritten-outside}
use Rattle.hb_layout.specs.declared.meta.Meta.{Meta}
use Rattle.hb_layout.specs.Offsets.{slot_offset}
use Rattle.hb_super.specs.Superblocks.{IsLegal, IsNewest, body_bytes}
use Rattle.hb_super.proofs.Supers.{alone}
use Rattle.hb_super.proofs.Writes.{framed_super}
use Rattle.hb_super.proofs.Facts.BodyLaws.{frame_long}

-- in places that were closed it is the newest
pub first_newest : (b : List ℕ) (meta : Meta) → IsLegal 0 meta → 8192 ≤ length b → get_or b 4096 0 ≢ open_gate
    → IsNewest (overwritten b 0 (open_gate ∷ body_bytes 0 meta)) 0 meta
first_newest b meta legal long closed =
    let frame = open_gate ∷ body_bytes 0 meta in
    let c = overwritten b 0 frame in
    let frame_is : length (open_gate ∷ body_bytes 0 meta) ≡ 41 = frame_long 0 meta in
    let kept : get_or c 4096 0 ≡ get_or b 4096 0 = overwritten-outside b 0 frame (omega (arith, frame_is, long)) 4096 (inr (omega (arith, frame_is))) in
    alone c 0 meta (framed_super b 0 meta legal long) (λ s n has differs.
    let here : slot_offset s ≡ 4096 = omega (arith, differs) in
    closed (sym kept ∙ ap (λ (at : ℕ). get_or c at 0) (sym here) ∙ has.gate))

-- what is said of the place and the body that were given holds of these two
pub of_first : (P : ℕ → List ℕ → Type 0) (meta : Meta) (at : ℕ) (body : List ℕ) → at ≡ 0 → body ≡ body_bytes 0 meta → P at body → P 0 (body_bytes 0 meta)
of_first P meta at body at_is body_is h = subst (λ (n : ℕ). P n (body_bytes 0 meta)) at_is (subst (λ (l : List ℕ). P at l) body_is h)
