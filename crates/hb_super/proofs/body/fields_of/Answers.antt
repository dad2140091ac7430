use Rattle.std.proofs.Common.{◌≡◌, ℕ, List, get_or, slice_range, ap, arith}
use Rattle.hb_lemmas.specs.Numbers.{big_endian}
use Rattle.hb_super.specs.Superblocks.{body_bytes}
use Rattle.hb_super.proofs.body.fields_of.Goals as goal

pub returns-clause-exact : goal.returns-clause-exact
unfolding big_endian
returns-clause-exact c = λ turn meta legal is.
    let part : (from to : ℕ) → slice_range c.args.body.now from to ≡ slice_range (body_bytes turn meta) from to = λ from to. ap (λ (l : List ℕ). slice_range l from to) is in
    let at : (i : ℕ) → get_or c.args.body.now i 0 ≡ get_or (body_bytes turn meta) i 0 = λ i. ap (λ (l : List ℕ). get_or l i 0) is in
    let pages = c.u32_at.ensures meta.pages (omega (arith, legal.layout.few_pages)) (part 12 16) in
    let log = c.u32_at-2.ensures meta.log (omega (arith, legal.layout.log_limit)) (part 16 20) in
    let dcap = c.u16_at.ensures meta.dcap (omega (arith, legal.layout.dcap_most)) (part 20 22) in
    let icap = c.u16_at-2.ensures meta.icap (omega (arith, legal.layout.icap_most)) (part 22 24) in
    let root = c.u32_at-3.ensures meta.root legal.numbers.root (part 24 28) in
    let high = c.u32_at-4.ensures meta.high legal.numbers.high (part 28 32) in
    let live = c.u32_at-5.ensures meta.live legal.numbers.live (part 32 36) in
    let free = c.u32_at-6.ensures meta.free legal.numbers.free (part 36 40) in
    λ i. (
      at 9 i,
      record { k = at 10 i; pages = pages i; log = log i; dcap = dcap i; icap = icap i; root = root i; height = at 11 i; high = high i; live = live i; free = free i },
    )
