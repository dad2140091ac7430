-- What sources and sinks in memory count, move and keep.
use Rattle.std.proofs.Common.{◌≡◌, ℕ, ◌+◌, ◌-◌, ◌^◌, ◌<◌, List, [], length, take, drop, Some, Err, refl, sym, ap, subst, ◌∙◌, arith}
use Rattle.std.proofs.lemmas.List.{append-nil, drop-drop, take_rest}
use Rattle.hb_outside.specs.Calls.{Counts, Puts}
use Rattle.hb_outside.specs.Memory.{next_count}
use Rattle.hb_outside.specs.Streams.{TakesFront, Takes}
use Rattle.hb_outside.proofs.Facts.CountLaws.{Counts-rose, Rose-next_count}

-- a call that failed and was counted
pub Counts-failed : {failed : Type 0} (before after : ℕ) → failed → before < 2 ^ 64 → after ≡ next_count before → Counts failed before after
Counts-failed before after is fits count = Counts-rose is (omega (arith, fits, count)) (Rose-next_count before after count)

-- what is moved from the bytes from a place on is moved from what is left of them
pub Takes-from_place : (bytes held left into : List ℕ) (at n : ℕ) → held ≡ bytes → drop at bytes ≡ left
    → TakesFront (take (length held - at) (drop at held)) (drop n (take (length held - at) (drop at held))) into n
    → Takes (Some left) (Some (drop (at + n) bytes)) into n
Takes-from_place bytes held left into at n same e h =
    let rest : take (length held - at) (drop at held) ≡ left = take_rest held at ∙ ap (drop at) same ∙ e in
    let moved : TakesFront left (drop n left) into n = subst (λ (l : List ℕ). TakesFront l (drop n l) into n) rest h in
    (drop (at + n) bytes, refl, subst (λ (l : List ℕ). TakesFront left l into n) (ap (drop n) (sym e) ∙ drop-drop n at bytes) moved)

-- a put that failed, put nothing and was counted
pub Puts-nothing : {T E : Type 0} {e : E} {piece written written' : List ℕ} (before after : ℕ) → written' ≡ written → before < 2 ^ 64 → after ≡ next_count before
    → Puts {T = T} piece (Err e) (record { written = Some written; faults = before }) (record { written = Some written'; faults = after })
Puts-nothing {piece = piece} {written = written} before after same fits count = record {
  done = tt;
  tried = ([], (piece, refl), ap (λ (l : List ℕ). Some l) (same ∙ sym (append-nil written)));
  counts = Counts-failed before after refl fits count;
}
