-- Why bytes are no page that a file may have.
use Rattle.std.proofs.Common.{◌≡◌, inl, inr, ℕ, List, Option, Some, None, Result, Ok, Err, refl, sym, subst, ◌∙◌, arith}
use Rattle.std.specs.Prelude.{IfErr, IsSomeAnd}
use Rattle.hb_frag.specs.declared.pages.Page.{Page}
use Rattle.hb_frag.specs.declared.pages.Page.TheVariants.{Live, Free}
use Rattle.hb_lemmas.proofs.Options.{value_and}
use Rattle.hb_frag.specs.Grammar.{HasSpelling, SpellsPage}
use Rattle.hb_layout.specs.declared.meta.Meta.{Meta}
use Rattle.hb_page_codec.specs.Exact.{AreBytes}
use Rattle.hb_page_codec.specs.ReadingPages.{page_of_bytes}
use Rattle.hb_page_codec.proofs.Facts.PageLaws.{has_spelling, page_again, page_takes}
use Rattle.hb_frag.specs.declared.pages.LivePage.{LivePage}
use Rattle.hb_ops.specs.Sound.{BreaksFirst}
use Rattle.hb_view.specs.Limits.{meta_with}
use Rattle.hb_view.specs.WellMade.{KeepsRules, SpellWellMade}
use Rattle.hb_store.specs.Fetching.{BreaksHere, HoldsNot, IsRuleOfPage}
use Rattle.hb_store.specs.States.{IsGoodPage}
use Rattle.hb_store.specs.declared.stops.FetchStop.{FetchStop}
use Rattle.hb_store.specs.declared.stops.FetchStop.TheVariants as fetches
use Rattle.hb_store.specs.declared.stops.Why.TheVariants.{Rule, Level, Extent}

-- what is read can be written
pub can_be_written : (bytes : List ℕ) (page : Page) → AreBytes bytes → page_of_bytes bytes ≡ Some page → HasSpelling page
can_be_written bytes page fits read = (has_spelling page).1 (bytes, page_takes bytes page fits read)

pub good_read : (meta : Meta) (bytes : List ℕ) (page : Page) → AreBytes bytes → page_of_bytes bytes ≡ Some page → IsGoodPage meta page → IsSomeAnd (page_of_bytes bytes) (λ page. SpellsPage bytes page × IsGoodPage meta page)
good_read meta bytes page fits read good =
    let Q : Option Page → Type 0 = λ o. IsSomeAnd o (λ page. SpellsPage bytes page × IsGoodPage meta page) in
    subst Q (sym read) (page_takes bytes page fits read, good)

-- a page that one walk tells to be well made
pub well_made_good : (meta : Meta) (bytes : List ℕ) → AreBytes bytes → SpellWellMade (meta_with meta.k meta.height meta.dcap meta.icap) bytes → IsSomeAnd (page_of_bytes bytes) (λ page. SpellsPage bytes page × IsGoodPage meta page)
well_made_good meta bytes fits made =
    let w = value_and (page_of_bytes bytes) (KeepsRules (meta_with meta.k meta.height meta.dcap meta.icap)) made in
    good_read meta bytes w.0 fits w.1 (good w.0 (can_be_written bytes w.0 fits w.1) w.2)
  where
    good : (page : Page) → HasSpelling page → KeepsRules (meta_with meta.k meta.height meta.dcap meta.icap) page → IsGoodPage meta page
    good (Live page) spelled keeps = (spelled, keeps)
    good (Free next) spelled keeps = spelled

-- the first rule that a page breaks by itself is one of those
rule_of_page : (rule : ℕ) (page : LivePage) (meta : Meta) → BreaksFirst rule page meta → IsRuleOfPage rule
rule_of_page rule page meta (inl third) = inr (inl (omega (arith, third.0), omega (arith, third.0)))
rule_of_page rule page meta (inr (inl fourth)) = inr (inl (omega (arith, fourth.0), omega (arith, fourth.0)))
rule_of_page rule page meta (inr (inr (inl fifth))) = inr (inl (omega (arith, fifth.0), omega (arith, fifth.0)))
rule_of_page rule page meta (inr (inr (inr (inl sixth)))) = inr (inl (omega (arith, sixth.0), omega (arith, sixth.0)))
rule_of_page rule page meta (inr (inr (inr (inr tenth)))) = inr (inr tenth.0)

stop_holds : (meta : Meta) (bytes : List ℕ) (id : ℕ) (page : Page) (stop : FetchStop) → SpellsPage bytes page → BreaksHere meta id page stop → HoldsNot meta (Some bytes) id stop
stop_holds meta bytes id page (fetches.Damaged at (Rule rule)) spells h = (h.0, rule_of_page rule h.3 meta h.5, inr (h.1, h.3, subst (λ (p : Page). SpellsPage bytes p) h.4 spells, h.5))
stop_holds meta bytes id page (fetches.Damaged at (Level asked found)) spells h = h
stop_holds meta bytes id page (fetches.Damaged at (Extent asked found)) spells h = h
stop_holds meta bytes id page fetches.ReadFault spells h = tt
stop_holds meta bytes id page fetches.Crowded spells h = tt

-- a page that breaks a rule isn't one that the file may have
pub breaks_holds : {X : Type 0} (r : Result X FetchStop) (meta : Meta) (bytes : List ℕ) (id : ℕ) (page : Page) → AreBytes bytes → page_of_bytes bytes ≡ Some page → IfErr r (BreaksHere meta id page) → IfErr r (HoldsNot meta (Some bytes) id)
breaks_holds (Ok x) meta bytes id page fits read h = tt
breaks_holds (Err stop) meta bytes id page fits read h = stop_holds meta bytes id page stop (page_takes bytes page fits read) h

-- nor are bytes that spell none
pub no_page_holds : (meta : Meta) (bytes : List ℕ) (id : ℕ) (stop : FetchStop) → stop ≡ fetches.Damaged id (Rule 0) → page_of_bytes bytes ≡ None → HoldsNot meta (Some bytes) id stop
no_page_holds meta bytes id stop is none =
    subst (HoldsNot meta (Some bytes) id) (sym is)
    (refl, inl refl, inl (refl, λ page spells. let never : None ≡ Some page = sym none ∙ page_again bytes page spells in cc never))
