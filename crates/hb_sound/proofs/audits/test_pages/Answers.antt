use Rattle.std.proofs.Common.{inl, ℕ, List, Option, refl, sym, ◌∙◌, subst}
use Rattle.std.proofs.lemmas.Bool.{false≢true}
use Rattle.std.proofs.lemmas.Result.{err_from_is_err_and, on_ok_weaker}
use Rattle.hb_frag.specs.declared.pages.Page.{Page}
use Rattle.hb_sound.specs.Covers.{IsFreeBreak}
use Rattle.hb_sound.specs.Facts.{AreFactsOf}
use Rattle.hb_sound.specs.Names.{NamesIn}
use Rattle.hb_sound.specs.Told.{file_with}
use Rattle.hb_sound.proofs.Bridge.{from_rooted}
use Rattle.hb_sound.proofs.SixRules.{err_then, free_named, local_named, on_broken_at, six_kept}
use Rattle.hb_sound.proofs.audits.test_pages.Goals as goal

pub returns-then-not-is_rooted-clause-names : goal.returns-then-not-is_rooted-clause-names
returns-then-not-is_rooted-clause-names c list are =
    inl (refl, refl, λ rooted. false≢true (sym c.if-not-is_rooted.true ∙ c.is_rooted.ensures.rooted.1 (from_rooted c.args.facts.now.meta.now c.args.facts.now.list.now list are rooted)))

pub returns-in_err-none_for-clause-names : goal.returns-in_err-none_for-clause-names
returns-in_err-none_for-clause-names c =
    let p = err_from_is_err_and c.from_residual-in_err-none_for.result c.from_residual-in_err-none_for.ensures.1 in
    let rooted = c.is_rooted.ensures.rooted.0 c.if-not-is_rooted.false in
    let err = c.in_err-none_for.ensures.err in
    let B : Option ℕ → Type 0 = λ o. IsFreeBreak c.args.facts.now.meta.now c.args.facts.now.list.now o in
    let N : ℕ → ℕ → Type 0 = λ id rule. (list : List Page) → AreFactsOf c.args.facts.now.meta.now c.args.facts.now.list.now list → NamesIn (file_with c.args.facts.now.meta.now list) id rule in
    rw (p.1, p.2)
    (on_broken_at N c.in_err-none_for.field-0.0 err.0 2 err.2 (free_named c.args.facts.now.meta.now c.args.facts.now.list.now c.args.facts.now.each.count rooted.0 rooted.1 err.0 (subst B err.1 c.in_ok-free_break.ensures)))

pub returns-clause-keeps : goal.returns-clause-keeps
returns-clause-keeps c =
    let rooted = c.is_rooted.ensures.rooted.0 c.if-not-is_rooted.false in
    let B : Option ℕ → Type 0 = λ o. IsFreeBreak c.args.facts.now.meta.now c.args.facts.now.list.now o in
    on_ok_weaker c.test_alone.result (six_kept c.args.facts.now.meta.now c.args.facts.now.list.now c.args.facts.now.each.count rooted.0 rooted.1 (subst B c.in_ok-none_for.ensures.ok c.in_ok-free_break.ensures)) c.test_alone.ensures.ok

pub returns-clause-names : goal.returns-clause-names
returns-clause-names c =
    let rooted = c.is_rooted.ensures.rooted.0 c.if-not-is_rooted.false in
    let B : Option ℕ → Type 0 = λ o. IsFreeBreak c.args.facts.now.meta.now c.args.facts.now.list.now o in
    let N : ℕ → ℕ → Type 0 = λ id rule. (list : List Page) → AreFactsOf c.args.facts.now.meta.now c.args.facts.now.list.now list → NamesIn (file_with c.args.facts.now.meta.now list) id rule in
    err_then c.test_alone.result
    (λ stop is. on_broken_at N stop is.0 is.1 is.2 (local_named c.args.facts.now.meta.now c.args.facts.now.list.now c.args.facts.now.each.count rooted.0 rooted.1 (subst B c.in_ok-none_for.ensures.ok c.in_ok-free_break.ensures) is.0 is.1 is.3))
    c.test_alone.ensures.err
