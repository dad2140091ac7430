use Rattle.std.proofs.Common.{◌≡◌, ◌≢◌, ◌⊎◌, inl, inr, ℕ, ◌+◌, ◌-◌, ◌<◌, ◌≤◌, List, length, take, drop, Option, Some, None, IfSome, arith, ap, sym, ◌∙◌, subst}
use Rattle.hb_disk.specs.Model.{DiskModel, IsDisk}
use Rattle.hb_lemmas.proofs.Options.{if_value, at_value}
use Rattle.hb_wal.specs.Frames.{IsEnd, IsBadFrame, range}
use Rattle.hb_wal.specs.Reading.{HeadIs, BeginsFrame}
use Rattle.hb_wal.proofs.HeadBytes.{short_end, closed_gate_end, bad_frame, good_frame}
use Rattle.hb_wal.proofs.heads.read_frame.Goals as goal
use Rattle.hb_wal.proofs.heads.read_frame.Goals.{then-len-eq0-via-then-len-eq0, then-len-eq0-via-else-len-eq0+then-left-len}

-- what the disk tells of the place
module _ (d : DiskModel) (is_disk : IsDisk d) (at left : ℕ) (inside : at + left ≤ d.size) (b : List ℕ) (told : d.told ≡ Some b) where
  long : at + left ≤ length b
  long = omega (arith, is_disk.long b (is_disk.as_read b told), inside)

  pub told_short : left < 5 → IsEnd (range at left b)
  told_short = short_end b at left long

  module _ (enough : 5 ≤ left) (found : Option ℕ) (heads : IfSome d.told (λ b. HeadIs found (take 5 (drop at b)))) where
    here : HeadIs found (take 5 (drop at b))
    here = at_value d.told (λ b. HeadIs found (take 5 (drop at b))) b told heads

    pub told_closed : found ≡ None → IsEnd (range at left b)
    told_closed none = closed_gate_end b at left long enough (subst (λ (o : Option ℕ). HeadIs o (take 5 (drop at b))) none here)

    module _ (len : ℕ) (is : found ≡ Some len) where
      open_here : HeadIs (Some len) (take 5 (drop at b))
      open_here = subst (λ (o : Option ℕ). HeadIs o (take 5 (drop at b))) is here

      pub told_bad : (len ≡ 0) ⊎ (left - 5 < len) → IsBadFrame (range at left b)
      told_bad = bad_frame b at left long enough len open_here.0 open_here.1

      pub told_good : len ≢ 0 → len ≤ left - 5 → BeginsFrame (range at left b) (range (at + 5) len b)
      told_good some whole = good_frame b at left long enough len open_here.0 open_here.1 some whole

pub returns-then-left-lt-FRAME-clause-frame : goal.returns-then-left-lt-FRAME-clause-frame
returns-then-left-lt-FRAME-clause-frame g c =
    let d = g.D.Device.model c.args.disk.now in
    if_value d.told (λ b. IsEnd (range c.args.at c.args.left b)) (λ b told.
    told_short d (g.met.D.Device.is_disk c.args.disk.now) c.args.at c.args.left c.requires.inside b told c.if-left-lt-FRAME.true)

pub returns-in_default-clause-frame : goal.returns-in_default-clause-frame
returns-in_default-clause-frame g c =
    let d = g.D.Device.model c.args.disk.now in
    if_value d.told (λ b. IsEnd (range c.args.at c.args.left b)) (λ b told.
    told_closed d (g.met.D.Device.is_disk c.args.disk.now) c.args.at c.args.left c.requires.inside b told (omega (arith, c.if-left-lt-FRAME.false))
    c.in_ok-len.field-0 c.in_ok-len.ensures.head c.in_default.is)

pub returns-then-len-eq0-clause-bad : goal.returns-then-len-eq0-clause-bad
returns-then-len-eq0-clause-bad g c = λ _.
    let d = g.D.Device.model c.args.disk.now in
    let bad : (c.in-Some.len ≡ 0) ⊎ (c.args.left - 5 < c.in-Some.len) = elim c.then-len-eq0.branch [
      | then-len-eq0-via-then-len-eq0 w ↦ inl w.if-len-eq0.true
      | then-len-eq0-via-else-len-eq0+then-left-len w ↦ inr w.if-left-len.true
    ] in
    if_value d.told (λ b. IsBadFrame (range c.args.at c.args.left b)) (λ b told.
    told_bad d (g.met.D.Device.is_disk c.args.disk.now) c.args.at c.args.left c.requires.inside b told (omega (arith, c.if-left-lt-FRAME.false))
    c.in_ok-len.field-0 c.in_ok-len.ensures.head c.in-Some.len c.in-Some.is bad)

pub returns-in_err-read_payload-clause-memory : goal.returns-in_err-read_payload-clause-memory
returns-in_err-read_payload-clause-memory g c = λ _.
    let d = g.D.Device.model c.args.disk.now in
    if_value d.told (λ b. (x : List ℕ) × BeginsFrame (range c.args.at c.args.left b) x) (λ b told. (
      _,
      told_good d (g.met.D.Device.is_disk c.args.disk.now) c.args.at c.args.left c.requires.inside b told (omega (arith, c.if-left-lt-FRAME.false))
          c.in_ok-len.field-0 c.in_ok-len.ensures.head c.in-Some.len c.in-Some.is c.if-len-eq0.false (omega (arith, c.if-left-len.false)),
    ))

pub returns-clause-frame : goal.returns-clause-frame
returns-clause-frame g c =
    let d = g.D.Device.model c.args.disk.now in
    let v = c.in_ok-read_payload.field-0 in
    let one = g.D.Device.model c.read_head.new.disk in
    if_value d.told (λ b. BeginsFrame (range c.args.at c.args.left b) v.items) (λ b told.
    let good = told_good d (g.met.D.Device.is_disk c.args.disk.now) c.args.at c.args.left c.requires.inside b told (omega (arith, c.if-left-lt-FRAME.false))
    c.in_ok-len.field-0 c.in_ok-len.ensures.head c.in-Some.len c.in-Some.is c.if-len-eq0.false (omega (arith, c.if-left-len.false)) in
    let from : v.items ≡ range (c.args.at + c.from.result) c.in-Some.len b = at_value one.told (λ b. v.items ≡ range (c.args.at + c.from.result) c.in-Some.len b) b (c.read_head.ensures.only.stays.told ∙ told) c.in_ok-read_payload.ensures.bytes in
    let read : v.items ≡ range (c.args.at + 5) c.in-Some.len b = from ∙ ap (λ (n : ℕ). range (c.args.at + n) c.in-Some.len b) c.from.ensures in
    subst (λ (l : List ℕ). BeginsFrame (range c.args.at c.args.left b) l) (sym read) good)
