-- The parts of the decider together are the row of a search.
use Rattle.std.proofs.Common.{◌≡◌, ◌⊎◌, inl, inr, ℕ, ◌-◌, List, [], ◌∷◌, ◌++◌, length, Option, Some, None, sym, ap, subst, ◌∙◌}
use Rattle.std.specs.List.{slice_get}
use Rattle.std.specs.Prelude.{MatchOption}
use Rattle.std.specs.Result.{IfOk, OnErr}
use Rattle.std.specs.declared.result.Result.{Result}
use Rattle.std.specs.declared.result.Result.TheVariants.{Ok, Err}
use Rattle.std.proofs.lemmas.List.{same_from_push}
use Rattle.hb_activity.specs.Deciding.{deed_of, given_pages, given_sight}
use Rattle.hb_activity.specs.Passing.{PassesOn, posts_owed}
use Rattle.hb_activity.specs.Walks.{MeetsRecords, goal_of}
use Rattle.hb_activity.specs.declared.activities.Activity.{Activity}
use Rattle.hb_activity.specs.declared.activities.Activity.TheVariants as at
use Rattle.hb_activity.specs.declared.deciding.Fate.TheVariants as fates
use Rattle.hb_activity.specs.declared.deciding.Next.{Next}
use Rattle.hb_frag.specs.Leaves.{IsPointer, leaf_at}
use Rattle.hb_frag.specs.declared.leaves.Leaf.{Leaf}
use Rattle.hb_frag.specs.declared.leaves.Leaf.TheVariants.{Records}
use Rattle.hb_frag.specs.declared.pages.LivePage.{LivePage}
use Rattle.hb_layout.specs.declared.meta.Meta.{Meta}
use Rattle.hb_search.specs.Gathering.{GoesBehind, SearchesBy, boxes_then}
use Rattle.hb_search.specs.SearchRows.{Gathers, SearchGoesOn}
use Rattle.hb_search.specs.Searching.{SearchRow, StaysGathering}
use Rattle.hb_search.proofs.LeafAhead.{last_splits}
use Rattle.hb_set.specs.declared.scripts.Line.{Line}
use Rattle.hb_space.specs.Boxes.{Area, common_area, pieces_outside}
use Rattle.hb_space.specs.declared.records.Record.{Record}
use Rattle.hb_view.specs.Within.{records_within}

-- the page's leaf at a point that was copied
pub leaf_here : (page : LivePage) (corner p : List ℕ) (seen leaf : Leaf) (area : Area) → corner ≡ p → leaf_at page corner ≡ Some (record { leaf = seen; area = area }) → seen ≡ leaf → leaf_at page p ≡ Some (record { leaf = leaf; area = area })
leaf_here page corner p seen leaf area same there is = subst (λ (q : List ℕ). leaf_at page q ≡ Some (record { leaf = leaf; area = area })) same (there ∙ ap (λ (l : Leaf). Some (record { leaf = l; area = area })) is)

-- ---- a walk

pub passes_on : (meta : Meta) (line : Line) (rest : List Area) (found : List Record) (id : ℕ) (page : LivePage) (next : Next) (p : List ℕ) (leaf : Leaf) (area : Area) →
    goal_of line.command rest ≡ Some p → leaf_at page p ≡ Some (record { leaf = leaf; area = area }) → IsPointer leaf →
    next.then ≡ at.SessionWalk line (Some id) rest found → next.op ≡ None → next.jobs.items ≡ posts_owed page p leaf → next.fate ≡ fates.GoesOn →
    SearchesBy meta line rest found id page next
passes_on meta line rest found id page next p leaf area goal there names then_is op_is jobs_is fate_is = λ held pages free.
    subst (λ (o : Option (List ℕ)). MatchOption o ⊥ (λ q. PassesOn page q (at.SessionWalk line (Some id) rest found) (deed_of (at.SessionWalk line held rest found) next) ⊎ Gathers (given_sight meta pages free) line rest found page q (deed_of (at.SessionWalk line held rest found) next))) (sym goal) (inl (record {
      leaf = leaf;
      area = area;
      at_point = there;
      names = names;
      deed_is = λ i. deed_of (at.SessionWalk line held rest found) (record { then = then_is i; op = op_is i; jobs = record { items = jobs_is i }; fate = fate_is i });
    }))

-- ---- a leaf of records

pub gathers : (meta : Meta) (line : Line) (rest : List Area) (found gathered records : List Record) (id : ℕ) (page : LivePage) (next : Next) (p : List ℕ) (at_hand area : Area) →
    goal_of line.command rest ≡ Some p → leaf_at page p ≡ Some (record { leaf = Records records; area = area }) → slice_get rest (length rest - 1) ≡ Some at_hand → gathered ≡ found ++ records_within at_hand records → GoesBehind meta line rest gathered area next →
    SearchesBy meta line rest found id page next
gathers meta line rest found gathered records id page next p at_hand area goal there last taken by = λ held pages free.
    let split = last_splits rest at_hand last in
    let deed = deed_of (at.SessionWalk line held rest found) next in
    subst (λ (o : Option (List ℕ)). MatchOption o ⊥ (λ q. PassesOn page q (at.SessionWalk line (Some id) rest found) deed ⊎ Gathers (given_sight meta pages free) line rest found page q deed)) (sym goal) (inr (record {
      front = split.0;
      at_hand = at_hand;
      boxes = split.1;
      records = records;
      area = area;
      leaf = there;
      goes = subst (λ (l : List Record). SearchGoesOn (given_sight meta pages free) line (boxes_then split.0 at_hand area) l deed) taken (by split.0 at_hand split.1 held rest found pages free);
    }))

pub gathers_if : {E : Type 0} (result : Result Next E) (meta : Meta) (line : Line) (rest : List Area) (found gathered records : List Record) (id : ℕ) (page : LivePage) (p : List ℕ) (at_hand area : Area) →
    goal_of line.command rest ≡ Some p → leaf_at page p ≡ Some (record { leaf = Records records; area = area }) → slice_get rest (length rest - 1) ≡ Some at_hand → gathered ≡ found ++ records_within at_hand records → IfOk result (λ next. (meta : Meta) → GoesBehind meta line rest gathered area next) →
    IfOk result (SearchesBy meta line rest found id page)
gathers_if (Ok next) meta line rest found gathered records id page p at_hand area goal there last taken by = gathers meta line rest found gathered records id page next p at_hand area goal there last taken (by meta)
gathers_if (Err why) meta line rest found gathered records id page p at_hand area goal there last taken by = tt

pub meets_records : {X E : Type 0} (result : Result X E) (page : LivePage) (goal : Option (List ℕ)) (p : List ℕ) (records : List Record) (area : Area) → goal ≡ Some p → leaf_at page p ≡ Some (record { leaf = Records records; area = area }) → OnErr result (MatchOption goal ⊥ (MeetsRecords page))
meets_records (Ok x) page goal p records area is there = tt
meets_records (Err why) page goal p records area is there = subst (λ (o : Option (List ℕ)). MatchOption o ⊥ (MeetsRecords page)) (sym is) (records, area, there)

-- the last box that is taken is the one at hand
pub taken_last : (rest held front left : List Area) (at_hand taken : Area) → held ≡ rest → held ≡ left ++ taken ∷ [] → rest ≡ front ++ at_hand ∷ [] → (left ≡ front) × (taken ≡ at_hand)
taken_last rest held front left at_hand taken same is boxes = same_from_push left front taken at_hand (sym is ∙ same ∙ boxes)

pub boxes_so : (front left boxes : List Area) (at_hand taken area : Area) → (left ≡ front) × (taken ≡ at_hand) → boxes ≡ left ++ pieces_outside taken (common_area taken area) → boxes ≡ boxes_then front at_hand area
boxes_so front left boxes at_hand taken area same is = is ∙ ap (λ (l : List Area). l ++ pieces_outside taken (common_area taken area)) same.0 ∙ ap (λ (a : Area). front ++ pieces_outside a (common_area a area)) same.1

-- what was found with what was taken of a leaf
pub found_so : (found before after records seen : List Record) (at_hand : Area) → before ≡ found → seen ≡ records → after ≡ before ++ records_within at_hand seen → after ≡ found ++ records_within at_hand records
found_so found before after records seen at_hand was all is = is ∙ ap (λ (l : List Record). l ++ records_within at_hand seen) was ∙ ap (λ (l : List Record). found ++ records_within at_hand l) all

-- where a step leads may be gone on from
pub stays_so : (reached next : Activity) → reached ≡ next → StaysGathering next → StaysGathering reached
stays_so reached next is stays = subst StaysGathering (sym is) stays

-- ---- the session that asked

pub asked_search : {E : Type 0} (result : Result Next E) (state : Activity) (meta : Meta) (id : ℕ) (page : LivePage) (line : Line) (held : Option ℕ) (rest : List Area) (found : List Record) → state ≡ at.SessionWalk line held rest found → IfOk result (SearchesBy meta line rest found id page) →
    IfOk result (λ next. (free : Option (ℕ × ℕ)) → SearchRow state (given_sight meta (given_pages state id page None) free) id page (deed_of state next))
asked_search (Ok next) state meta id page line held rest found is by = λ free.
    subst (λ (a : Activity). SearchRow a (given_sight meta (given_pages a id page None) free) id page (deed_of a next)) (sym is) (by held ((id, page) ∷ []) free)
asked_search (Err why) state meta id page line held rest found is by = tt
