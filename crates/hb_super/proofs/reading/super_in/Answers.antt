use Rattle.std.proofs.Common.{◌≡◌, ℕ, ◌-◌, ◌≤◌, ◌%◌, length, take, drop, sym, ap, ◌∙◌, subst, refl, true≢false}
use Rattle.std.proofs.lemmas.List.{take_rest}
use Rattle.std.proofs.lemmas.Slice.Eq.{bytes_eq-Decides}
use Rattle.hb_layout.specs.declared.meta.Meta.{Meta}
use Rattle.hb_layout.specs.Limits.{IsLayout}
use Rattle.hb_super.specs.Superblocks.{body_bytes}
use Rattle.hb_super.proofs.reading.super_in.Goals as goal
use Rattle.hb_super.proofs.reading.super_in.Goals.{else-bytes-via-then-bytes+then-belongs+else-eq, else-bytes-via-then-bytes+else-belongs, else-bytes-via-else-bytes}

pub returns-then-eq : goal.returns-then-eq
returns-then-eq c =
    let bytes = c.args.bytes.now in
    let fields = c.fields_of-turn.result in
    let fits = c.if-belongs.ensures.within refl in
    let same : take (length bytes - 1) (drop 1 bytes) ≡ c.as_slice.result.now = (bytes_eq-Decides (take (length bytes - 1) (drop 1 bytes)) c.as_slice.result.now).0 (sym c.if-eq.ensures) in
    record {
      legal = record { turn_fits = fits.0; layout = fits.2; numbers = c.fields_of-turn.ensures.numbers };
      here = fits.1;
      gate = c.if-bytes.true;
      body = sym (take_rest bytes 1) ∙ same ∙ c.as_slice.ensures ∙ c.body_of.ensures;
    }

pub returns-else-bytes : goal.returns-else-bytes
returns-else-bytes c = λ turn meta is.
    let bytes = c.args.bytes.now in
    let fields : c.fields_of-turn.result ≡ (turn, meta) = c.fields_of-turn.ensures.exact turn meta is.legal (take_rest bytes 1 ∙ is.body) in
    elim c.else-bytes.branch [
      | else-bytes-via-then-bytes+then-belongs+else-eq w ↦
          let body : w.as_slice.result.now ≡ body_bytes turn meta = w.as_slice.ensures ∙ w.body_of.ensures ∙ ap (λ (x : ℕ × Meta). body_bytes x.0 x.1) fields in
          cc (w.if-eq.ensures ∙ (bytes_eq-Decides (take (length bytes - 1) (drop 1 bytes)) w.as_slice.result.now).1 (take_rest bytes 1 ∙ is.body ∙ sym body))
      | else-bytes-via-then-bytes+else-belongs w ↦
          let turn_is : c.fields_of-turn.result.0 ≡ turn = ap (λ (x : ℕ × Meta). x.0) fields in
          true≢false (sym (w.if-belongs.ensures.only
          (subst (λ (t : ℕ). t ≤ 3) (sym turn_is) is.legal.turn_fits)
          (ap (λ (t : ℕ). t % 2) turn_is ∙ is.here)
          (subst (λ (m : Meta). IsLayout m) (sym (ap (λ (x : ℕ × Meta). x.1) fields)) is.legal.layout)))
      | else-bytes-via-else-bytes w ↦ absurd (w.if-bytes.false is.gate)
    ]
