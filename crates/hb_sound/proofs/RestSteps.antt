-- What is left of the leaves of a page, leaf by leaf, and what that adds once all pages were read.
use Rattle.std.proofs.Common.{◌≡◌, ◌↔◌, ◌⊎◌, inl, inr, ℕ, zero, suc, ◌≤◌, ◌==◌, Bool, true, false, IsTrue, if◌then◌else◌, List, [], ◌∷◌, ◌++◌, length, All, Contains, Option, Some, None, option_map, IfSome, vec_len, refl, sym, ap, ◌∙◌, subst, arith}
use Rattle.std.proofs.lemmas.Bool.{false≢true}
use Rattle.std.proofs.lemmas.List.{append-nil, append_assoc}
use Rattle.std.proofs.lemmas.List.Elements.{All-append, All-cons, All-contains, All-nil}
use Rattle.hb_space.specs.Boxes.{Area, side_below, side_from}
use Rattle.hb_frag.specs.declared.leaves.Leaf.{Leaf}
use Rattle.hb_frag.specs.declared.leaves.Leaf.TheVariants.{Records, Child, Sibling}
use Rattle.hb_frag.specs.declared.pages.LivePage.{LivePage}
use Rattle.hb_frag.specs.declared.pages.Page.{Page}
use Rattle.hb_frag.specs.declared.pages.Page.TheVariants as pages
use Rattle.hb_frag.specs.Trees.{Tree, Cut}
use Rattle.hb_frag.specs.Leaves.{Placed, leaves, leaves_of, siblings}
use Rattle.hb_lemmas.proofs.Lists.{each_member, only_one, place_within, no_member}
use Rattle.hb_ops.proofs.Facts.PlacedLaws.{leaf_is_sibling, placed, sibling_is_leaf}
use Rattle.hb_ops.specs.Sound.{count_name}
use Rattle.hb_sound.specs.declared.page_facts.Seen.{Seen}
use Rattle.hb_sound.specs.declared.page_facts.Fact.{Fact}
use Rattle.hb_sound.specs.declared.page_facts.Fact.TheVariants.{Live, Free}
use Rattle.hb_sound.specs.declared.links.Links.{Links}
use Rattle.hb_sound.specs.declared.rests.Rest.{Rest}
use Rattle.hb_sound.specs.declared.rests.Rest.TheVariants.{Nothing, Lone, More}
use Rattle.hb_sound.specs.Facts.{FindsBelow, FindsSame, SeesSame, if_seen, more, names_in, seen_at}
use Rattle.hb_sound.specs.Links.{Adds, AddsPage, FindsSiblings, IsNextBad, or_else, IsRestOf, Knows, KnowsTold}
use Rattle.hb_sound.specs.Told.{item_at}
use Rattle.hb_sound.proofs.Counts.{none_more}
use Rattle.hb_sound.proofs.Levels.{seen_fact}
use Rattle.hb_sound.proofs.LinkSteps.{names_are}
use Rattle.hb_frag.proofs.Facts.NamesListed.{siblings-append}

module _ (facts : List Fact) (level : ℕ) (before : List Placed) where
  -- the first sibling leaf
  pub sibling_more : (name : ℕ) (area : Area) → IsRestOf facts level before Nothing
      → IsRestOf facts level (before ++ placed (Sibling name) area ∷ []) (Lone name area)
  sibling_more name area is = (
    siblings-append before (placed (Sibling name) area ∷ []) ∙ ap (λ (l : List (ℕ × Area)). l ++ (name, area) ∷ []) is.0,
    All-append (FindsBelow facts level) before (placed (Sibling name) area ∷ []) is.1
        (All-cons (FindsBelow facts level) (placed (Sibling name) area) [] (record { below = tt }) (All-nil (FindsBelow facts level))),
  )

  -- a leaf that is no sibling leaf, and keeps rule 8
  other_more : (x : Placed) (rest : Rest) → siblings (x ∷ []) ≡ [] → FindsBelow facts level x → IsRestOf facts level before rest
      → IsRestOf facts level (before ++ x ∷ []) rest
  other_more x rest none finds is = by_rest rest is
    where
      same : siblings (before ++ x ∷ []) ≡ siblings before
      same = siblings-append before (x ∷ []) ∙ ap (λ (l : List (ℕ × Area)). siblings before ++ l) none ∙ append-nil (siblings before)

      all : All (FindsBelow facts level) before → All (FindsBelow facts level) (before ++ x ∷ [])
      all h = All-append (FindsBelow facts level) before (x ∷ []) h (All-cons (FindsBelow facts level) x [] finds (All-nil (FindsBelow facts level)))

      by_rest : (rest : Rest) → IsRestOf facts level before rest → IsRestOf facts level (before ++ x ∷ []) rest
      by_rest Nothing is = (same ∙ is.0, all is.1)
      by_rest (Lone name area) is = (same ∙ is.0, all is.1)
      by_rest More is = tt

  pub records_more : (leaf : Leaf) (area : Area) (rest : Rest) → siblings (placed leaf area ∷ []) ≡ [] → FindsBelow facts level (placed leaf area)
      → IsRestOf facts level before rest → IsRestOf facts level (before ++ placed leaf area ∷ []) rest
  records_more leaf area rest none finds is = other_more (placed leaf area) rest none finds is

  -- a sibling leaf where there was none
  pub lone_more : (rest after : Rest) (name : ℕ) (area : Area) → rest ≡ Nothing → (after ≡ More) ⊎ (after ≡ Lone name area) → IsRestOf facts level before rest
      → IsRestOf facts level (before ++ placed (Sibling name) area ∷ []) after
  lone_more rest after name area none made is =
      let P : Rest → Type 0 = λ r. IsRestOf facts level before r in
      let Q : Rest → Type 0 = λ r. IsRestOf facts level (before ++ placed (Sibling name) area ∷ []) r in
      elim made [ inl full ↦ subst Q (sym full) tt | inr lone ↦ subst Q (sym lone) (sibling_more name area (subst P none is)) ]

  -- both sides of a cut
  pub cut_more : (area below above : Area) (axis value : ℕ) (left right : Tree) (rest : Rest) → below ≡ side_below area axis value → above ≡ side_from area axis value
      → IsRestOf facts level ((before ++ leaves_of left below) ++ leaves_of right above) rest → IsRestOf facts level (before ++ leaves_of (Cut axis value left right) area) rest
  cut_more area below above axis value left right rest one_side other_side is =
      let first = leaves_of left (side_below area axis value) in
      let L : Area → Type 0 = λ a. IsRestOf facts level ((before ++ leaves_of left a) ++ leaves_of right above) rest in
      let R : Area → Type 0 = λ a. IsRestOf facts level ((before ++ first) ++ leaves_of right a) rest in
      let Q : List Placed → Type 0 = λ l. IsRestOf facts level l rest in
      subst Q (append_assoc before first (leaves_of right (side_from area axis value))) (subst R other_side (subst L one_side is))

-- a test, and what is the first bad one after it
pub next_by : (P : Type 0) (good : Bool) (id : ℕ) (first after : Option ℕ) → (IsTrue good ↔ P) → after ≡ (if good then first else or_else first id)
    → IsNextBad P id first after
next_by P true id first after tells e = inl (tells.0 refl, e)
next_by P false id first after tells e = inr (λ p. absurd (false≢true (tells.1 p)), e)

module _ (facts : List Fact) (page : LivePage) where
  abbrev all : List Placed
  all = leaves_of page.frag page.area

  -- its sibling leaves are good where those that it has are
  siblings_find : ((name : ℕ) (area : Area) → Contains (siblings all) (name, area) → SeesSame facts page.level name area) → FindsSiblings facts page
  siblings_find sees = each_member (FindsSame facts page.level) all (λ x h. by_leaf x.leaf x.area h)
    where
      by_leaf : (leaf : Leaf) (area : Area) → Contains all (placed leaf area) → FindsSame facts page.level (placed leaf area)
      by_leaf (Records records) area there = record { same = tt }
      by_leaf (Child name) area there = record { same = tt }
      by_leaf (Sibling name) area there = record { same = sees name area (leaf_is_sibling all name area there) }

  none_find : siblings all ≡ [] → FindsSiblings facts page
  none_find none = siblings_find (λ name area there.
      let Q : List (ℕ × Area) → Type 0 = λ l. Contains l (name, area) in
      absurd (no_member (name, area) (subst Q none there)))

  names_by : (other : ℕ) → names_in other (leaves page.frag) ≡ count_name other (siblings all)
  names_by other = names_are other page.frag page.area

  -- a page of which nothing is left adds nothing
  pub nothing_adds : (id : ℕ) (links : Links) → IsRestOf facts page.level all Nothing → Adds facts id page links links
  nothing_adds id links is = record {
    named = λ other.
        let none : names_in other (leaves page.frag) ≡ 0 = names_by other ∙ ap (λ (l : List (ℕ × Area)). count_name other l) is.0 in
        sym (ap (λ (n : ℕ). option_map (more n) (item_at links.named.items other)) none ∙ none_more (item_at links.named.items other));
    sibling = inl (none_find is.0, refl);
    child = inl (is.1, refl);
    same = refl;
  }

  module _ (name : ℕ) (area : Area) (is : IsRestOf facts page.level all (Lone name area)) where
    lone_names : (other : ℕ) → names_in other (leaves page.frag) ≡ (if name == other then 1 else 0)
    lone_names other =
        let one = names_by other ∙ ap (λ (l : List (ℕ × Area)). count_name other l) is.0 in
        omega (arith, one)

    lone_finds : SeesSame facts page.level name area ↔ FindsSiblings facts page
    lone_finds = (
      λ sees. siblings_find (λ n a there.
          let Q : List (ℕ × Area) → Type 0 = λ l. Contains l (n, a) in
          let same = only_one {X = ℕ × Area} (name, area) (n, a) (subst Q is.0 there) in
          let P : ℕ × Area → Type 0 = λ x. SeesSame facts page.level x.0 x.1 in
          subst P same sees),
      λ finds.
          let Q : List (ℕ × Area) → Type 0 = λ l. Contains l (name, area) in
          let there : Contains (siblings all) (name, area) = subst Q (sym is.0) (0, omega arith, refl) in
          (All-contains (FindsSame facts page.level) all (placed (Sibling name) area) finds (sibling_is_leaf all name area there)).same,
    )

    -- a page of which one sibling leaf is left adds that
    pub lone_adds : (id : ℕ) (old new : Links) (good : Bool) → ((other : ℕ) → item_at new.named.items other ≡ option_map (more (if name == other then 1 else 0)) (item_at old.named.items other))
        → (IsTrue good ↔ SeesSame facts page.level name area) → new.sibling ≡ (if good then old.sibling else or_else old.sibling id) → new.child ≡ old.child → vec_len new.named ≡ vec_len old.named → Adds facts id page old new
    lone_adds id old new good counted tells next child same = record {
      named = λ other. counted other ∙ ap (λ (n : ℕ). option_map (more n) (item_at old.named.items other)) (sym (lone_names other));
      sibling = next_by (FindsSiblings facts page) good id old.sibling new.sibling (λ t. lone_finds.0 (tells.0 t), λ f. tells.1 (lone_finds.1 f)) next;
      child = inl (is.1, child);
      same = same;
    }

-- a page of which nothing is left, whatever it is
pub nothing_told : (o : Option (List (Option Page))) (facts : List Fact) (seen : Seen) (id : ℕ) (links : Links) → seen.rest ≡ Nothing
    → IfSome o (λ told. (page : Page) → item_at told id ≡ Some (Some page) → Knows facts (Live seen) page → AddsPage facts id page links links)
nothing_told None facts seen id links is = tt
nothing_told (Some told) facts seen id links is = λ page at knows. by_page page knows
  where
    by_page : (page : Page) → Knows facts (Live seen) page → AddsPage facts id page links links
    by_page (pages.Live page) knows =
        let Q : Rest → Type 0 = λ r. IsRestOf facts page.level (leaves_of page.frag page.area) r in
        nothing_adds facts page id links (subst Q is knows.1)
    by_page (pages.Free next) knows = absurd knows

-- what was seen under a number is known of the told page
pub seen_told : (o : Option (List (Option Page))) (facts : List Fact) (seen : Seen) (id : ℕ) (old new : Links) → seen_at facts id ≡ Some seen
    → IfSome o (λ told. (page : Page) → item_at told id ≡ Some (Some page) → Knows facts (Live seen) page → AddsPage facts id page old new)
    → IfSome o (λ told. (page : Page) → item_at told id ≡ Some (Some page) → KnowsTold facts told → AddsPage facts id page old new)
seen_told None facts seen id old new at adds = tt
seen_told (Some told) facts seen id old new at adds = λ page there known. adds page there (known id (Live seen) page (seen_fact (item_at facts id) seen at) there)

-- a number under which no page in use was seen adds nothing
pub free_told : (o : Option (List (Option Page))) (facts : List Fact) (id : ℕ) (links : Links) → 1 ≤ id → id ≤ length facts → seen_at facts id ≡ None
    → IfSome o (λ told. (page : Page) → item_at told id ≡ Some (Some page) → KnowsTold facts told → AddsPage facts id page links links)
free_told None facts id links some within none = tt
free_told (Some told) facts id links some within none = λ page there known.
    let fact = fact_there facts id some within in
    by_page fact.0 page (ap if_seen (sym fact.1) ∙ none) (known id fact.0 page fact.1 there)
  where
    fact_there : (facts : List Fact) (id : ℕ) → 1 ≤ id → id ≤ length facts → (fact : Fact) × (item_at facts id ≡ Some fact)
    fact_there facts zero some within = absurd (omega (arith, some))
    fact_there facts (suc place) some within = place_within facts place (omega (arith, within))

    by_page : (fact : Fact) (page : Page) → if_seen (Some fact) ≡ None → Knows facts fact page → AddsPage facts id page links links
    by_page (Live seen) page e knows = absurd (let never : Some seen ≡ None = e in cc)
    by_page (Free next) (pages.Live page) e knows = absurd knows
    by_page (Free next) (pages.Free other) e knows = refl
