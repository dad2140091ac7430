use Rattle.std.proofs.Common.{ℕ, List, length}
use Rattle.std.proofs.lemmas.Result.{err_from_is_err_and, on_ok_weaker}
use Rattle.hb_frag.specs.declared.pages.Page.{Page}
use Rattle.hb_sound.specs.Facts.{AreFactsOf}
use Rattle.hb_sound.specs.Links.{AreLinks}
use Rattle.hb_sound.specs.Names.{KeepsSix, NamesIn}
use Rattle.hb_sound.specs.Told.{file_with}
use Rattle.hb_sound.proofs.LateRules.{eighth, ninth, none_ten, seventh, some_ten, sound, tenth}
use Rattle.hb_sound.proofs.SixRules.{err_then, on_broken_at}
use Rattle.hb_sound.proofs.audits.test_links.Goals as goal

pub returns-in_err-none_for-clause-names : goal.returns-in_err-none_for-clause-names
returns-in_err-none_for-clause-names c =
    let meta = c.args.facts.now.meta.now in
    let facts = c.args.facts.now.list.now in
    let links = c.args.links.now in
    let p = err_from_is_err_and c.from_residual.result c.from_residual.ensures.1 in
    let err = c.in_err-none_for.ensures.err in
    let N : ℕ → ℕ → Type 0 = λ id rule. (list : List Page) → AreFactsOf c.args.facts.now.meta.now c.args.facts.now.list.now list → KeepsSix (file_with c.args.facts.now.meta.now list)
    → AreLinks c.args.facts.now.list.now list (length c.args.facts.now.list.now) c.args.links.now → NamesIn (file_with c.args.facts.now.meta.now list) id rule in
    rw (p.1, p.2)
    (on_broken_at N c.in_err-none_for.field-0.0 err.0 7 err.2 (λ list are kept of_links. seventh meta facts links list are kept of_links err.0 err.1))

pub returns-in_err-none_for-2-clause-names : goal.returns-in_err-none_for-2-clause-names
returns-in_err-none_for-2-clause-names c =
    let meta = c.args.facts.now.meta.now in
    let facts = c.args.facts.now.list.now in
    let links = c.args.links.now in
    let p = err_from_is_err_and c.from_residual-in_err-none_for-2.result c.from_residual-in_err-none_for-2.ensures.1 in
    let err = c.in_err-none_for-2.ensures.err in
    let N : ℕ → ℕ → Type 0 = λ id rule. (list : List Page) → AreFactsOf c.args.facts.now.meta.now c.args.facts.now.list.now list → KeepsSix (file_with c.args.facts.now.meta.now list)
    → AreLinks c.args.facts.now.list.now list (length c.args.facts.now.list.now) c.args.links.now → NamesIn (file_with c.args.facts.now.meta.now list) id rule in
    rw (p.1, p.2)
    (on_broken_at N c.in_err-none_for-2.field-0.0 err.0 8 err.2 (λ list are kept of_links. eighth meta facts links list are kept of_links c.in_ok-none_for.ensures.ok err.0 err.1))

pub returns-in_err-none_for-3-clause-names : goal.returns-in_err-none_for-3-clause-names
returns-in_err-none_for-3-clause-names c =
    let meta = c.args.facts.now.meta.now in
    let facts = c.args.facts.now.list.now in
    let links = c.args.links.now in
    let p = err_from_is_err_and c.from_residual-in_err-none_for-3.result c.from_residual-in_err-none_for-3.ensures.1 in
    let err = c.in_err-none_for-3.ensures.err in
    let N : ℕ → ℕ → Type 0 = λ id rule. (list : List Page) → AreFactsOf c.args.facts.now.meta.now c.args.facts.now.list.now list → KeepsSix (file_with c.args.facts.now.meta.now list)
    → AreLinks c.args.facts.now.list.now list (length c.args.facts.now.list.now) c.args.links.now → NamesIn (file_with c.args.facts.now.meta.now list) id rule in
    rw (p.1, p.2)
    (on_broken_at N c.in_err-none_for-3.field-0.0 err.0 9 err.2 (λ list are kept of_links.
    ninth meta facts links list are kept of_links c.in_ok-none_for.ensures.ok c.in_ok-none_for-2.ensures.ok c.in_ok-cover_break.field-0
    (λ below. rw (c.deref.ensures.value) at (c.in_ok-cover_break.ensures below)) err.0 err.1))

pub returns-clause-sound : goal.returns-clause-sound
returns-clause-sound c =
    let meta = c.args.facts.now.meta.now in
    let facts = c.args.facts.now.list.now in
    let links = c.args.links.now in
    on_ok_weaker c.none_for-4.result
    (λ e list are kept of_links.
    sound meta facts links list are kept of_links c.in_ok-none_for.ensures.ok c.in_ok-none_for-2.ensures.ok c.in_ok-cover_break.field-0
    (λ below. rw (c.deref.ensures.value) at (c.in_ok-cover_break.ensures below)) c.in_ok-none_for-3.ensures.ok
    (none_ten facts c.first_breaking.result e c.first_breaking.ensures))
    c.none_for-4.ensures.ok

pub returns-clause-names : goal.returns-clause-names
returns-clause-names c =
    let meta = c.args.facts.now.meta.now in
    let facts = c.args.facts.now.list.now in
    let links = c.args.links.now in
    let N : ℕ → ℕ → Type 0 = λ id rule. (list : List Page) → AreFactsOf c.args.facts.now.meta.now c.args.facts.now.list.now list → KeepsSix (file_with c.args.facts.now.meta.now list)
    → AreLinks c.args.facts.now.list.now list (length c.args.facts.now.list.now) c.args.links.now → NamesIn (file_with c.args.facts.now.meta.now list) id rule in
    err_then c.none_for-4.result
    (λ stop is. on_broken_at N stop is.0 10 is.2 (λ list are kept of_links.
    tenth meta facts links list are kept of_links c.in_ok-none_for.ensures.ok c.in_ok-none_for-2.ensures.ok c.in_ok-cover_break.field-0
    (λ below. rw (c.deref.ensures.value) at (c.in_ok-cover_break.ensures below)) c.in_ok-none_for-3.ensures.ok is.0
    (some_ten facts c.first_breaking.result is.0 is.1 c.first_breaking.ensures)))
    c.none_for-4.ensures.err
