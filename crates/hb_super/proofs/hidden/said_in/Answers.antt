use Rattle.std.proofs.Common.{◌≡◌, ℕ, sym, ap, ◌∙◌, subst, refl, true≢false}
use Rattle.std.proofs.lemmas.Slice.Eq.{bytes_eq-Decides}
use Rattle.hb_layout.specs.declared.meta.Meta.{Meta}
use Rattle.hb_layout.specs.Limits.{IsLayout}
use Rattle.hb_super.specs.Superblocks.{body_bytes}
use Rattle.hb_super.proofs.hidden.said_in.Goals as goal
use Rattle.hb_super.proofs.hidden.said_in.Goals.{else-found-turn-via-then-found-turn+then-is_layout+else-eq, else-found-turn-via-then-found-turn+else-is_layout, else-found-turn-via-else-found-turn}

pub returns-then-eq : goal.returns-then-eq
returns-then-eq c =
    let same = (bytes_eq-Decides c.args.body.now c.as_slice.result.now).0 (sym c.if-eq.ensures) in (
      record { turn_fits = c.requires.turn; layout = c.if-is_layout.ensures.within refl; numbers = c.fields_of-found.ensures.numbers },
      same ∙ c.as_slice.ensures ∙ c.body_of.ensures,
    )

pub returns-else-found-turn : goal.returns-else-found-turn
returns-else-found-turn c = λ said legal is.
    let fields : c.fields_of-found.result ≡ (c.args.turn, said) = c.fields_of-found.ensures.exact c.args.turn said legal is in
    elim c.else-found-turn.branch [
      | else-found-turn-via-then-found-turn+then-is_layout+else-eq w ↦
          let body : w.as_slice.result.now ≡ body_bytes c.args.turn said = w.as_slice.ensures ∙ w.body_of.ensures ∙ ap (λ (x : Meta). body_bytes c.args.turn x) (ap (λ (x : ℕ × Meta). x.1) fields) in
          cc (w.if-eq.ensures ∙ (bytes_eq-Decides c.args.body.now w.as_slice.result.now).1 (is ∙ sym body))
      | else-found-turn-via-then-found-turn+else-is_layout w ↦
          true≢false (sym (w.if-is_layout.ensures.only (subst (λ (m : Meta). IsLayout m) (sym (ap (λ (x : ℕ × Meta). x.1) fields)) legal.layout)))
      | else-found-turn-via-else-found-turn w ↦ absurd (w.if-found-turn.false (ap (λ (x : ℕ × Meta). x.0) fields))
    ]
