-- What the leaves of the pages name, page by page.
use Rattle.std.proofs.Common.{◌≡◌, inl, inr, ℕ, ◌+◌, ◌<◌, List, [], ◌∷◌, ◌++◌, length, take, Option, Some, None, option_map, IfSome, slice_get, refl, sym, ap, ◌∙◌, subst, arith}
use Rattle.hb_lemmas.proofs.Lists.{place_within}
use Rattle.hb_space.specs.Boxes.{Area, side_below, side_from}
use Rattle.hb_frag.specs.declared.leaves.Leaf.TheVariants.{Records, Child, Sibling}
use Rattle.hb_frag.specs.declared.pages.LivePage.{LivePage}
use Rattle.hb_frag.specs.declared.pages.Page.{Page}
use Rattle.hb_frag.specs.declared.pages.Page.TheVariants as pages
use Rattle.hb_frag.specs.Leaves.{leaves, leaves_of, siblings, siblings_of}
use Rattle.hb_frag.specs.Trees.{Tree, Tip, Cut}
use Rattle.hb_ops.specs.Files.{if_live, page_at}
use Rattle.hb_ops.specs.Sound.{count_name, times_named}
use Rattle.hb_sound.specs.declared.page_facts.Fact.{Fact}
use Rattle.hb_sound.specs.declared.links.Links.{Links}
use Rattle.hb_sound.specs.declared.names.Times.{Times}
use Rattle.hb_sound.specs.declared.names.Times.TheVariants.{Never}
use Rattle.hb_sound.specs.Facts.{more, names_in}
use Rattle.hb_sound.specs.Links.{Adds, AddsPage, AreLinks, AreRead, FindsChildren, FindsSiblings, IsCut, IsFirstUpTo, IsNextBad, LosesChild, LosesSibling, KnowsTold}
use Rattle.hb_sound.specs.Stops.{OnBroken}
use Rattle.hb_sound.specs.Told.{item_at}
use Rattle.hb_sound.specs.declared.pages.AuditStop.{AuditStop}
use Rattle.hb_sound.specs.declared.pages.AuditStop.TheVariants as stops
use Rattle.hb_sound.proofs.Bridge.{page_item}
use Rattle.hb_sound.proofs.Counts.{more_more, names_append}
use Rattle.hb_sound.proofs.Firsts.{found, item_behind, pass_first}
use Rattle.hb_sound.proofs.ReadUp.{take_more}
use Rattle.hb_frag.proofs.Facts.NamesListed.{siblings-append}

-- the first bad one after one more
pub next_first : (p : ℕ → Type 0) (good : Type 0) (n : ℕ) (first after : Option ℕ) → IsFirstUpTo p n first → IsNextBad good (n + 1) first after
    → (good → ¬ (p (n + 1))) → (¬ good → p (n + 1)) → IsFirstUpTo p (n + 1) after
next_first p good n None after is (inl keeps) none some =
    let Q : Option ℕ → Type 0 = λ o. IsFirstUpTo p (n + 1) o in
    subst Q (sym keeps.1) (pass_first p n None is (none keeps.0))
next_first p good n (Some first) after is (inl keeps) none some =
    let Q : Option ℕ → Type 0 = λ o. IsFirstUpTo p (n + 1) o in subst Q (sym keeps.1) is
next_first p good n None after is (inr breaks) none some =
    let Q : Option ℕ → Type 0 = λ o. IsFirstUpTo p (n + 1) o in
    subst Q (sym breaks.1) (found p n is (some breaks.0))
next_first p good n (Some first) after is (inr breaks) none some =
    let Q : Option ℕ → Type 0 = λ o. IsFirstUpTo p (n + 1) o in subst Q (sym breaks.1) is

count_append : (id : ℕ) (xs ys : List (ℕ × Area)) → count_name id (xs ++ ys) ≡ count_name id xs + count_name id ys
count_append id [] ys = omega arith
count_append id (s ∷ xs) ys = let rest = count_append id xs ys in omega (arith, rest)

-- the names among the leaves are those of the sibling leaves
pub names_are : (id : ℕ) (tree : Tree) (area : Area) → names_in id (leaves tree) ≡ count_name id (siblings (leaves_of tree area))
names_are id (Tip (Records records)) area = refl
names_are id (Tip (Child page)) area = refl
names_are id (Tip (Sibling page)) area = refl
names_are id (Cut axis value left right) area =
    let below = leaves_of left (side_below area axis value) in
    let from = leaves_of right (side_from area axis value) in
    let a = names_are id left (side_below area axis value) in
    let b = names_are id right (side_from area axis value) in
    let parts = names_append id (leaves left) (leaves right) in
    let whole = ap (λ (l : List (ℕ × Area)). count_name id l) (siblings-append below from) ∙ count_append id (siblings below) (siblings from) in
    omega (arith, a, b, parts, whole)

pub times_more : (id : ℕ) (xs ys : List Page) → times_named id (xs ++ ys) ≡ times_named id xs + times_named id ys
times_more id [] ys = omega arith
times_more id (pages.Live page ∷ xs) ys = let rest = times_more id xs ys in omega (arith, rest)
times_more id (pages.Free next ∷ xs) ys = times_more id xs ys

fuse : (k t : ℕ) (o : Option Fact) → option_map (more k) (option_map (λ fact. more t Never) o) ≡ option_map (λ fact. more (t + k) Never) o
fuse k t None = refl
fuse k t (Some fact) = ap (λ (x : Times). Some x) (more_more k t Never)

module _ (facts : List Fact) (list : List Page) (n : ℕ) (page : Page) (at : page_at list (n + 1) ≡ Some page) where
  here : slice_get list n ≡ Some page
  here = sym (item_behind list n) ∙ sym (page_item list (n + 1)) ∙ at

  times_then : (id : ℕ) → times_named id (take (n + 1) list) ≡ times_named id (take n list) + times_named id (page ∷ [])
  times_then id = ap (λ (l : List Page). times_named id l) (take_more list n page here) ∙ times_more id (take n list) (page ∷ [])

  -- the number's page, where it is in use
  is_live : (live own : LivePage) → page ≡ pages.Live live → if_live (page_at list (n + 1)) ≡ Some own → live ≡ own
  is_live live own is e = let same : Some live ≡ Some own = sym (ap if_live (at ∙ ap (λ (p : Page). Some p) is)) ∙ e in cc

  live_more : (live : LivePage) (old new : Links) → page ≡ pages.Live live → AreLinks facts list n old → Adds facts (n + 1) live old new → AreLinks facts list (n + 1) new
  live_more live old new is links adds =
      let there : if_live (page_at list (n + 1)) ≡ Some live = ap if_live (at ∙ ap (λ (p : Page). Some p) is) in
      let S : LivePage → Type 0 = λ p. FindsSiblings facts p in
      let C : LivePage → Type 0 = λ p. FindsChildren facts p in
      record {
        named = λ id.
            let k = names_in id (leaves live.frag) in
            let t = times_named id (take n list) in
            let both = times_then id in
            let one : times_named id (page ∷ []) ≡ count_name id (siblings_of live) + 0 = ap (λ (p : Page). times_named id (p ∷ [])) is in
            let same = names_are id live.frag live.area in
            let count : t + k ≡ times_named id (take (n + 1) list) = omega (arith, both, one, same) in
            adds.named id ∙ ap (option_map (more k)) (links.named id) ∙ fuse k t (item_at facts id)
            ∙ ap (λ (m : ℕ). option_map (λ (fact : Fact). more m Never) (item_at facts id)) count;
        sibling = next_first (LosesSibling facts list) (FindsSiblings facts live) n old.sibling new.sibling links.sibling adds.sibling
            (λ good loses. loses.2 (subst S (is_live live loses.0 is loses.1) good)) (λ bad. (live, there, bad));
        child = next_first (LosesChild facts list) (FindsChildren facts live) n old.child new.child links.child adds.child
            (λ good loses. loses.2 (subst C (is_live live loses.0 is loses.1) good)) (λ bad. (live, there, bad));
      }

  free_more : (next : ℕ) (links : Links) → page ≡ pages.Free next → AreLinks facts list n links → AreLinks facts list (n + 1) links
  free_more next links is are =
      let none : if_live (page_at list (n + 1)) ≡ None = ap if_live (at ∙ ap (λ (p : Page). Some p) is) in
      record {
        named = λ id.
            let both = times_then id in
            let zero_more : times_named id (page ∷ []) ≡ 0 = ap (λ (p : Page). times_named id (p ∷ [])) is in
            let count : times_named id (take n list) ≡ times_named id (take (n + 1) list) = omega (arith, both, zero_more) in
            are.named id ∙ ap (λ (m : ℕ). option_map (λ (fact : Fact). more m Never) (item_at facts id)) count;
        sibling = pass_first (LosesSibling facts list) n links.sibling are.sibling (λ loses. let never : None ≡ Some loses.0 = sym none ∙ loses.1 in cc);
        child = pass_first (LosesChild facts list) n links.child are.child (λ loses. let never : None ≡ Some loses.0 = sym none ∙ loses.1 in cc);
      }

by_page : (facts : List Fact) (list : List Page) (n : ℕ) (page : Page) (old new : Links) → page_at list (n + 1) ≡ Some page → AreLinks facts list n old → AddsPage facts (n + 1) page old new
    → AreLinks facts list (n + 1) new
by_page facts list n (pages.Live live) old new at links adds = live_more facts list n (pages.Live live) at live old new refl links adds
by_page facts list n (pages.Free next) old new at links same =
    let Q : Links → Type 0 = λ l. AreLinks facts list (n + 1) l in
    subst Q (sym same) (free_more facts list n (pages.Free next) at next old refl links)

page_there : (facts : List Fact) (list : List Page) (n : ℕ) → length list ≡ length facts → n < length facts → (page : Page) × (page_at list (n + 1) ≡ Some page)
page_there facts list n same lt =
    let found = place_within list n (omega (arith, same, lt)) in
    (found.0, page_item list (n + 1) ∙ item_behind list n ∙ found.1)

-- one more page, where it is told
pub links_more : (o : Option (List (Option Page))) (facts : List Fact) (n : ℕ) (old new : Links) → n < length facts
    → IfSome o (λ told. (list : List Page) → AreRead told facts list → AreLinks facts list n old)
    → IfSome o (λ told. (page : Page) → item_at told (n + 1) ≡ Some (Some page) → KnowsTold facts told → AddsPage facts (n + 1) page old new)
    → IfSome o (λ told. (list : List Page) → AreRead told facts list → AreLinks facts list (n + 1) new)
links_more None facts n old new lt links adds = tt
links_more (Some told) facts n old new lt links adds = λ list read.
    let page = page_there facts list n read.same lt in
    by_page facts list n page.0 old new page.1 (links list read) (adds page.0 (read.told_are (n + 1) page.0 page.1) read.known)

-- the page is there, and cut, so it is never refused
pub never_broken : (o : Option (List (Option Page))) (facts : List Fact) (n : ℕ) → n < length facts
    → IfSome o (λ told. (page : Page) → item_at told (n + 1) ≡ Some (Some page) → IsCut page → ⊥)
    → IfSome o (λ told. (list : List Page) → AreRead told facts list → ⊥)
never_broken None facts n lt never = tt
never_broken (Some told) facts n lt never = λ list read.
    let page = page_there facts list n read.same lt in
    never page.0 (read.told_are (n + 1) page.0 page.1) (read.cut (n + 1) page.0 page.1)

pub on_broken : (p q : Type 0) (e : AuditStop) → (p → q) → OnBroken (λ id rule. p) e → OnBroken (λ id rule. q) e
on_broken p q (stops.Broken id rule) f h = f h
on_broken p q stops.Failed f h = tt
on_broken p q stops.NoMemory f h = tt
