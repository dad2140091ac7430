-- The rules 1 to 6: what the tests of the facts say of the file.
use Rattle.std.proofs.Common.{◌≡◌, inl, inr, ℕ, ◌≤◌, List, length, Some, None, Result, Ok, Err, IfErr, refl, sym, subst}
use Rattle.hb_frag.specs.declared.pages.Page.{Page}
use Rattle.hb_layout.specs.declared.meta.Meta.{Meta}
use Rattle.hb_sound.specs.declared.page_facts.Fact.{Fact}
use Rattle.hb_sound.specs.declared.pages.AuditStop.{AuditStop}
use Rattle.hb_sound.specs.declared.pages.AuditStop.TheVariants.{Broken}
use Rattle.hb_sound.specs.Covers.{IsFreeBreak, IsLeastRule, SeesRule, SeesTop}
use Rattle.hb_sound.specs.Facts.{AreFactsOf}
use Rattle.hb_sound.specs.Told.{HasBoundedMeta, file_with}
use Rattle.hb_sound.specs.Names.{KeepsSix, NamesIn}
use Rattle.hb_sound.specs.Stops.{OnBroken}
use Rattle.hb_sound.proofs.Bridge.{to_rooted}
use Rattle.hb_sound.proofs.ChainBridge.{not_counted, to_counted}
use Rattle.hb_sound.proofs.LocalBridge.{keeps_local, to_local}

pub err_then : {T E : Type 0} {P Q : E → Type 0} (r : Result T E) → ((e : E) → P e → Q e) → IfErr r P → IfErr r Q
err_then (Ok x) f h = tt
err_then (Err e) f h = f e h

pub on_broken_at : (p : ℕ → ℕ → Type 0) (stop : AuditStop) (id rule : ℕ) → stop ≡ Broken id rule → p id rule → OnBroken p stop
on_broken_at p stop id rule e h = let Q : AuditStop → Type 0 = λ s. OnBroken p s in subst Q (sym e) h

module _ (meta : Meta) (facts : List Fact) (count : length facts ≡ meta.high) (bounded : HasBoundedMeta meta) (top : SeesTop meta facts) where
  pub free_named : (id : ℕ) → IsFreeBreak meta facts (Some id) → (list : List Page) → AreFactsOf meta facts list → NamesIn (file_with meta list) id 2
  free_named id named list are =
      let is = not_counted meta facts list are id named in
      inr (inl (refl, to_rooted meta facts list are count bounded top, is.0, is.1))

  module _ (kept : IsFreeBreak meta facts None) where
    pub six_kept : ((id rule : ℕ) → 3 ≤ rule → rule ≤ 6 → ¬ (SeesRule facts rule id)) → (list : List Page) → AreFactsOf meta facts list → KeepsSix (file_with meta list)
    six_kept none list are = (to_rooted meta facts list are count bounded top, to_counted meta facts list are kept, keeps_local meta facts list are none)

    pub local_named : (id rule : ℕ) → IsLeastRule facts id rule → (list : List Page) → AreFactsOf meta facts list → NamesIn (file_with meta list) id rule
    local_named id rule is list are = inr (inr (inl (to_rooted meta facts list are count bounded top, to_counted meta facts list are kept, to_local meta facts list are id rule is)))
