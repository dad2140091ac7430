-- What the pins are once a step's pages came and were changed, and the actor's pins went over to the pages of its latches.
use Rattle.hb_steps.proofs.Machines.Names.{◌≡◌, inl, inr, ℕ, ◌+◌, ◌-◌, ◌≤◌, ◌==◌, ◌||◌, Bool, true, false, cond, List, [], ◌∷◌, ◌++◌, Option, Some, None, refl, sym, ap, subst, ◌∙◌, arith, count_by, eq-eqb, Wanted, Meta, Op, Use, has_id, filled, fresh, pinned, unpinned, brought, frame_of, in_place, put_last, first_passes, StoreState, page_wanted, pins_of, use_done, use_held}
use Rattle.std.specs.Option.{is_some}
use Rattle.hb_pool.proofs.Facts.Firsts.{count_without}
use Rattle.hb_pool.proofs.Facts.Others.{came_in}
use Rattle.hb_store.specs.Calls.{numbers_changed, use_changed, use_fetched}
use Rattle.hb_store.specs.Fetching.{use_numbered}
use Rattle.hb_steps.specs.Using.{CameFor, pin_each, unpin_each, use_number, use_wanted}
use Rattle.hb_steps.proofs.Machines.PinCounts.{IsSingle, brought_pins, brought_single, count_in_place, count_last, filled_pins, one_if, pinned_pins, single_in_place, single_last, unpinned_pins}

-- how many times a number stands in a list
abbrev pub times : ℕ → List ℕ → ℕ
times q [] = 0
times q (id ∷ rest) = one_if (id == q) + times q rest

pub times_joined : (q : ℕ) (xs ys : List ℕ) → times q (xs ++ ys) ≡ times q xs + times q ys
times_joined q [] ys = omega arith
times_joined q (id ∷ rest) ys = let more = times_joined q rest ys in omega (arith, more)

-- a page that is in a frame is counted
pub found_counted : (id : ℕ) (uses : List Use) (u : Use) → frame_of uses id ≡ Some u → 1 ≤ count_by (has_id id) uses
found_counted id uses u is =
    let less = count_without (has_id id) (has_id id) uses u is in
    let one : one_if (has_id id u) ≡ 1 = ap one_if (first_passes (has_id id) uses u is) in
    omega (arith, less, one)

-- ---- what leaves the pins

pub record PinsStay (old new : List Use) : Type 0 where
  pub single : IsSingle new
  pub pins : (q : ℕ) → pins_of new q ≡ pins_of old q

stays : (uses : List Use) → IsSingle uses → PinsStay uses uses
stays uses single = record { single = single; pins = λ q. refl }

then : (old middle new : List Use) → PinsStay old middle → PinsStay middle new → PinsStay old new
then old middle new first second = record { single = second.single; pins = λ q. second.pins q ∙ first.pins q }

-- whether the page is in a frame, or not
by_frame : (id : ℕ) (uses : List Use) (P : Bool → Type 0) → ((u : Use) → frame_of uses id ≡ Some u → P true) → (frame_of uses id ≡ None → P false) → P (is_some (frame_of uses id))
by_frame id uses P there absent = elim (frame_of uses id) as (λ o. frame_of uses id ≡ o → P (is_some o)) [
  | None ↦ absent
  | Some u ↦ there u
] refl

came : (id : ℕ) (dirty : Bool) (uses : List Use) → IsSingle uses → frame_of uses id ≡ None → PinsStay uses (brought id (tt {0}) dirty uses)
came id dirty uses single absent = record { single = brought_single id dirty uses single absent; pins = λ q. brought_pins id q dirty uses single absent }

stay_fetched : (id : ℕ) (uses : List Use) → IsSingle uses → PinsStay uses (use_fetched id uses)
stay_fetched id uses single = by_frame id uses (λ b. PinsStay uses (cond b uses (brought id (tt {0}) false uses))) (λ u is. stays uses single) (λ absent. came id false uses single absent)

there_fetched : (id : ℕ) (uses : List Use) → 1 ≤ count_by (has_id id) (use_fetched id uses)
there_fetched id uses = by_frame id uses (λ b. 1 ≤ count_by (has_id id) (cond b uses (brought id (tt {0}) false uses)))
    (λ u is. found_counted id uses u is)
    (λ absent. found_counted id (brought id (tt {0}) false uses) (fresh id (tt {0}) false) (came_in uses id (tt {0}) false absent))

stay_changed : (ids : List ℕ) (uses : List Use) → IsSingle uses → PinsStay uses (use_changed ids uses)
stay_changed [] uses single = stays uses single
stay_changed (id ∷ rest) uses single = then uses next (use_changed rest next) one (stay_changed rest next one.single)
  where
    next : List Use
    next = cond (is_some (frame_of uses id)) (put_last id (filled (tt {0})) uses) (brought id (tt {0}) true uses)

    one : PinsStay uses next
    one = by_frame id uses (λ b. PinsStay uses (cond b (put_last id (filled (tt {0})) uses) (brought id (tt {0}) true uses)))
        (λ u is. record { single = single_last id (filled (tt {0})) (λ v. refl) uses single; pins = λ q. filled_pins id q uses single })
        (λ absent. came id true uses single absent)

pub stay_done : (op : Option Op) (st : StoreState) (uses : List Use) → IsSingle uses → PinsStay uses (use_done op st uses)
stay_done None st uses single = stays uses single
stay_done (Some op) st uses single = stay_changed (numbers_changed st op) uses single

stay_numbered : (meta : Meta) (uses : List Use) → IsSingle uses → PinsStay uses (use_numbered meta uses)
stay_numbered meta uses single = elim ((meta.live == meta.pages) || (meta.free == 0)) as (λ b. PinsStay uses (cond b uses (use_fetched meta.free uses))) [
  | true ↦ stays uses single
  | false ↦ stay_fetched meta.free uses single
]

stay_number : (takes : Bool) (meta : Meta) (uses : List Use) → IsSingle uses → PinsStay uses (use_number takes meta uses)
stay_number true meta uses single = stay_numbered meta uses single
stay_number false meta uses single = stays uses single

-- ---- pins that come, and go

-- pages of these numbers are pinned once more
pub record PinsMore (ids : List ℕ) (old new : List Use) : Type 0 where
  pub single : IsSingle new
  pub pins : (q : ℕ) → pins_of new q ≡ pins_of old q + times q ids

pub none_more : (uses : List Use) → IsSingle uses → PinsMore [] uses uses
none_more uses single = record { single = single; pins = λ q. omega arith }

more_stay : (ids : List ℕ) (old middle new : List Use) → PinsMore ids old middle → PinsStay middle new → PinsMore ids old new
more_stay ids old middle new first second = record { single = second.single; pins = λ q. second.pins q ∙ first.pins q }

more_wanted : (wanted : Option Wanted) (uses : List Use) → IsSingle uses → PinsMore (page_wanted wanted) uses (use_wanted wanted uses)
more_wanted None uses single = none_more uses single
more_wanted (Some wanted) uses single =
    let fetched = use_fetched wanted.page uses in
    let stay = stay_fetched wanted.page uses single in
    record {
      single = single_last wanted.page pinned (λ u. refl) fetched stay.single;
      pins = λ q.
          let more = pinned_pins wanted.page q fetched stay.single (there_fetched wanted.page uses) in
          let same = stay.pins q in
          omega (arith, more, same);
    }

pub more_number : (takes : Bool) (meta : Meta) (wanted : Option Wanted) (uses : List Use) → IsSingle uses → PinsMore (page_wanted wanted) uses (use_number takes meta (use_wanted wanted uses))
more_number takes meta wanted uses single =
    let more = more_wanted wanted uses single in
    more_stay (page_wanted wanted) uses (use_wanted wanted uses) _ more (stay_number takes meta (use_wanted wanted uses) more.single)

-- so in what is that order of use
pub pinned_more : (takes : Bool) (meta : Meta) (wanted : Option Wanted) (old uses : List Use) → uses ≡ use_number takes meta (use_wanted wanted old) → IsSingle old → PinsMore (page_wanted wanted) old uses
pinned_more takes meta wanted old uses is single = subst (PinsMore (page_wanted wanted) old) (sym is) (more_number takes meta wanted old single)

count_unpinned : (k : ℕ) (ids : List ℕ) (uses : List Use) → count_by (has_id k) (unpin_each ids uses) ≡ count_by (has_id k) uses
count_unpinned k [] uses = refl
count_unpinned k (id ∷ rest) uses = count_unpinned k rest (in_place id unpinned uses) ∙ count_in_place k id unpinned (λ u. refl) uses

count_pinned : (k : ℕ) (ids : List ℕ) (uses : List Use) → count_by (has_id k) (pin_each ids uses) ≡ count_by (has_id k) uses
count_pinned k [] uses = refl
count_pinned k (id ∷ rest) uses = count_pinned k rest (put_last id pinned uses) ∙ count_last k id pinned (λ u. refl) uses

single_unpinned : (ids : List ℕ) (uses : List Use) → IsSingle uses → IsSingle (unpin_each ids uses)
single_unpinned ids uses single k = let same = count_unpinned k ids uses in let few = single k in omega (arith, same, few)

less_each : (ids : List ℕ) (uses : List Use) → IsSingle uses → (q : ℕ) → pins_of (unpin_each ids uses) q ≡ pins_of uses q - times q ids
less_each [] uses single q = omega arith
less_each (id ∷ rest) uses single q =
    let first = unpinned_pins id q uses single in
    let others = less_each rest (in_place id unpinned uses) (single_in_place id unpinned (λ u. refl) uses single) q in
    omega (arith, first, others)

-- pages of these numbers are in frames
abbrev pub AreThere : List ℕ → List Use → Type 0
AreThere ids uses = (id : ℕ) → 1 ≤ times id ids → 1 ≤ count_by (has_id id) uses

more_each : (ids : List ℕ) (uses : List Use) → IsSingle uses → AreThere ids uses → (q : ℕ) → pins_of (pin_each ids uses) q ≡ pins_of uses q + times q ids
more_each [] uses single there q = omega arith
more_each (id ∷ rest) uses single there q =
    let own : one_if (id == id) ≡ 1 = ap one_if (eq-eqb id id refl) in
    let first = pinned_pins id q uses single (there id (omega (arith, own))) in
    let others = more_each rest (put_last id pinned uses) (single_last id pinned (λ u. refl) uses single) (λ k in_rest. let same = count_last k id pinned (λ u. refl) uses in let some = there k (omega (arith, in_rest)) in omega (arith, same, some)) q in
    omega (arith, first, others)

-- ---- a step

-- What came for a step that comes to no row leaves the pins.
pub came_stays : (wanted : Option Wanted) (meta : Meta) (uses after : List Use) → IsSingle uses → CameFor wanted meta uses after → PinsStay uses after
came_stays wanted meta uses after single (inl is) = subst (PinsStay uses) (sym is) (stays uses single)
came_stays wanted meta uses after single (inr (inl is)) = subst (PinsStay uses) (sym is) (let_go (use_wanted wanted uses) (more_wanted wanted uses single))
  where
    let_go : (middle : List Use) → PinsMore (page_wanted wanted) uses middle → PinsStay uses (unpin_each (page_wanted wanted) middle)
    let_go middle more = record {
      single = single_unpinned (page_wanted wanted) middle more.single;
      pins = λ q. let less = less_each (page_wanted wanted) middle more.single q in let all = more.pins q in omega (arith, less, all);
    }
came_stays wanted meta uses after single (inr (inr is)) =
    let more = more_number true meta wanted uses single in
    let middle = use_numbered meta (use_wanted wanted uses) in
    subst (PinsStay uses) (sym is) (record {
      single = single_unpinned (page_wanted wanted) middle more.single;
      pins = λ q. let less = less_each (page_wanted wanted) middle more.single q in let all = more.pins q in omega (arith, less, all);
    })

-- A deed: the actor's pins are those of its latches before it no more, and are those of its latches after it.
pub deed_pins : (op : Option Op) (st : StoreState) (extra before after : List ℕ) (old came new : List Use) → PinsMore extra old came → new ≡ use_held (extra ++ before) after (use_done op st came) → AreThere after new
    → (q : ℕ) → pins_of new q ≡ pins_of old q - times q before + times q after
deed_pins op st extra before after old came new more is there q =
    let done = use_done op st came in
    let left = unpin_each (extra ++ before) done in
    let stay = stay_done op st came more.single in
    let single = single_unpinned (extra ++ before) done stay.single in
    let all : AreThere after left = λ id some. let held = there id some in let same : count_by (has_id id) new ≡ count_by (has_id id) left = ap (count_by (has_id id)) is ∙ count_pinned id after left in omega (arith, held, same) in
    let whole : pins_of new q ≡ pins_of left q + times q after = ap (λ (uses : List Use). pins_of uses q) is ∙ more_each after left single all q in
    let less = less_each (extra ++ before) done stay.single q in
    let joined = times_joined q extra before in
    let same = stay.pins q in
    let first = more.pins q in
    omega (arith, whole, less, joined, same, first)
