-- What a page that comes in, or is put into its frame, leaves of the frames.
use Rattle.std.proofs.Common.{◌≡◌, ◌≢◌, inl, inr, ℕ, ◌<◌, ◌==◌, nat_lt, Bool, true, false, cond, not, List, [], ◌∷◌, ◌++◌, length, map, Option, Some, None, IsTrue, IsSome, refl, sym, ap, subst, ◌∙◌}
use Rattle.std.specs.Prelude.{◌||◌, IfSome, IsSomeAnd, filter}
use Rattle.std.specs.Option.{is_some, option_map}
use Rattle.std.specs.Set.{remove_key}
use Rattle.std.proofs.lemmas.Bool.{cases_Bool, cases_eq, eqb-true, or_cases, or_parts, eq-eqb}
use Rattle.std.proofs.Math.Bool.{or-false}
use Rattle.std.proofs.lemmas.List.{append-nil, map-append}
use Rattle.std.proofs.lemmas.List.Elements.{filter-append}
use Rattle.hb_lemmas.proofs.Options.{some_value}
use Rattle.hb_frag.specs.declared.pages.Page.{Page}
use Rattle.hb_frag.specs.Grammar.{SpellsPage}
use Rattle.hb_pool.specs.declared.pools.TheConstants.{FRAMES}
use Rattle.hb_pool.specs.Frames.{Frame, IsStaying, Use, filled, fresh, may_go, must_stay, use_of}
use Rattle.hb_pool.specs.Pools.{IsPool, brought, frame_of, places, put_last, with_room}
use Rattle.hb_pool.proofs.Facts.Others.{came_in, last_changed, last_no_other, marked_pages_stay, no_other_came}
use Rattle.hb_pool.proofs.Facts.Pooled.{brought_pool, frame_pins, put_last_pool}
use Rattle.hb_pool.proofs.Facts.Told.{brought_told, frames_told, last_told}
use Rattle.hb_view.specs.Spelled.{page_spelled}
use Rattle.hb_store.specs.Calls.{use_changed}
use Rattle.hb_store.specs.Filling.{HasNew, MayGoOut, PutsInto, PutsAll, numbers_of}
use Rattle.hb_store.specs.Inside.{AreSpelled, dirty_in}
use Rattle.hb_ops.specs.SetPages.{has_page, set_pages}
use Rattle.hb_store.proofs.Facts.Setting.{or_assoc}

-- ---- a frame stays, or leaves

pub staying : (old new : Option (Frame (List ℕ))) (f : Frame (List ℕ)) → MayGoOut old new → old ≡ Some f → IsStaying f → new ≡ Some f
staying old new f (inl same) is stays = same ∙ is
staying old new f (inr left) is stays =
    let Q : Option (Frame (List ℕ)) → Type 0 = λ o. IsSomeAnd o (λ (g : Frame (List ℕ)). must_stay g ≡ false) in
    let off : must_stay f ≡ false = subst Q is left.1 in
    let never : true ≡ false = sym stays ∙ off in
    cc never

pub left_by_two : (old mid new : Option (Frame (List ℕ))) → MayGoOut old mid → MayGoOut mid new → MayGoOut old new
left_by_two old mid new (inl same) (inl then) = inl (then ∙ same)
left_by_two old mid new (inl same) (inr left) =
    let Q : Option (Frame (List ℕ)) → Type 0 = λ o. IsSomeAnd o (λ (g : Frame (List ℕ)). must_stay g ≡ false) in
    inr (left.0, subst Q same left.1)
left_by_two old mid new (inr left) (inl then) = inr (then ∙ left.0, left.1)
left_by_two old mid new (inr left) (inr again) =
    let Q : Option (Frame (List ℕ)) → Type 0 = λ o. IsSomeAnd o (λ (g : Frame (List ℕ)). must_stay g ≡ false) in
    let never : ⊥ = subst Q left.0 again.1 in
    absurd never

-- ---- a page that comes in

module _ (pool : List (Frame (List ℕ))) (id : ℕ) (bytes : List ℕ) (dirty : Bool) (is : IsPool pool) (absent : frame_of pool id ≡ None) (place : 0 < places pool) where
  abbrev after : List (Frame (List ℕ))
  after = brought id bytes dirty pool

  pub here : frame_of after id ≡ Some (fresh id bytes dirty)
  here = came_in pool id bytes dirty absent

  pub others : (q : ℕ) → q ≢ id → MayGoOut (frame_of pool q) (frame_of after q)
  others q other = by (frame_of after q) (frame_of pool q) refl refl
    where
      by : (new old : Option (Frame (List ℕ))) → frame_of after q ≡ new → frame_of pool q ≡ old → MayGoOut old new
      by (Some f) old now was = inl (sym (no_other_came pool id q bytes dirty f is other now) ∙ was)
      by None None now was = inl refl
      by None (Some f) now was = inr (
        refl,
        elim (must_stay f) as (λ b. must_stay f ≡ b → must_stay f ≡ false) [
          | true ↦ λ stays. let never : None ≡ Some f = sym now ∙ marked_pages_stay pool id q bytes dirty f was stays in cc never
          | false ↦ λ off. off
        ] refl,
      )

  pub is_pool : IsPool after
  is_pool = brought_pool pool id bytes dirty is absent place

  pub spelled : AreSpelled pool → SpellsPage bytes (page_spelled bytes) → AreSpelled after
  spelled each spells q = elim (cases_eq q id) [
    | inl same ↦
        let Q : Option (Frame (List ℕ)) → Type 0 = λ o. IfSome o (λ f. SpellsPage f.bytes (page_spelled f.bytes)) in
        subst Q (sym (ap (frame_of after) same ∙ here)) spells
    | inr other ↦ by q (frame_of pool q) (frame_of after q) (others q other) (each q)
  ]
    where
      by : (q : ℕ) (old new : Option (Frame (List ℕ))) → MayGoOut old new → IfSome old (λ f. SpellsPage f.bytes (page_spelled f.bytes)) → IfSome new (λ f. SpellsPage f.bytes (page_spelled f.bytes))
      by q old new (inl same) h = let Q : Option (Frame (List ℕ)) → Type 0 = λ o. IfSome o (λ f. SpellsPage f.bytes (page_spelled f.bytes)) in subst Q (sym same) h
      by q old new (inr left) h = let Q : Option (Frame (List ℕ)) → Type 0 = λ o. IfSome o (λ f. SpellsPage f.bytes (page_spelled f.bytes)) in subst Q (sym left.0) tt

-- a page that may go isn't dirty, so the dirty ones stay
clean_goes : (f : Frame (List ℕ)) → may_go f ≡ true → f.dirty ≡ false
clean_goes f goes = elim (cases_Bool f.dirty) [
  | inl on ↦ let never : false ≡ true = ap (λ (b : Bool). not (b || not (f.pins == 0))) (sym on) ∙ goes in cc never
  | inr off ↦ off
]

dirty_left : (fs : List (Frame (List ℕ))) → filter (λ (f : Frame (List ℕ)). f.dirty) (remove_key may_go fs) ≡ filter (λ (f : Frame (List ℕ)). f.dirty) fs
dirty_left [] = refl
dirty_left (f ∷ fs) =
    let D : Frame (List ℕ) → Bool = λ g. g.dirty in
    elim (may_go f) as (λ b. may_go f ≡ b → filter D (cond b fs (f ∷ remove_key may_go fs)) ≡ filter D (f ∷ fs)) [
      | true ↦ λ goes. ap (λ (d : Bool). cond d (f ∷ filter D fs) (filter D fs)) (sym (clean_goes f goes))
      | false ↦ λ _. ap (λ (l : List (Frame (List ℕ))). cond f.dirty (f ∷ l) l) (dirty_left fs)
    ] refl

-- where a clean page comes in the dirty ones are the same
pub dirty_brought : (pool : List (Frame (List ℕ))) (id : ℕ) (bytes : List ℕ) → dirty_in (brought id bytes false pool) ≡ dirty_in pool
dirty_brought pool id bytes =
    let D : Frame (List ℕ) → Bool = λ g. g.dirty in
    ap (λ (l : List (Frame (List ℕ))). map (λ (f : Frame (List ℕ)). f.id) l)
    (filter-append D (with_room pool) (fresh id bytes false ∷ [])
    ∙ append-nil (filter D (with_room pool))
    ∙ elim (nat_lt (length pool) FRAMES) as (λ b. filter D (cond b pool (remove_key may_go pool)) ≡ filter D pool) [
      | true ↦ refl
      | false ↦ dirty_left pool
    ])

-- ---- a page put into its frame, or brought there

-- bytes that are other ones keep number and pins
module _ (pool : List (Frame (List ℕ))) (id : ℕ) (bytes : List ℕ) (page : Page) (is : IsPool pool) (spells : SpellsPage bytes page) where
  pub puts_there : IsSome (frame_of pool id) → PutsInto id page pool (put_last id (filled bytes) pool)
  puts_there some =
      let f = some_value (frame_of pool id) some in
      let told : frame_of (map use_of pool) id ≡ Some (use_of f.0) = (frames_told pool).0 id ∙ ap (option_map use_of) f.1 in
      let now : frame_of (put_last id (filled bytes) pool) id ≡ Some (filled bytes f.0) = last_changed pool id (filled bytes) is (λ g. refl) ∙ ap (option_map (filled bytes)) f.1 in
      let Q : Option (Frame (List ℕ)) → Type 0 = λ o. HasNew o page in
      record {
        there = subst Q (sym now) (spells, refl);
        others = λ q other. inl (last_no_other pool id q (filled bytes) other (λ g. refl));
        uses = last_told pool id (filled bytes) (filled (tt {0})) (λ g. refl) ∙ ap (λ (b : Bool). cond b (put_last id (filled (tt {0})) (map use_of pool)) (brought id (tt {0}) true (map use_of pool))) (sym (ap (λ (o : Option Use). is_some o) told));
        pool = put_last_pool pool id (filled bytes) f.0 is f.1 refl (frame_pins pool id f.0 is f.1);
      }

  pub puts_new : frame_of pool id ≡ None → 0 < places pool → PutsInto id page pool (brought id bytes true pool)
  puts_new absent place =
      let told : frame_of (map use_of pool) id ≡ None = (frames_told pool).0 id ∙ ap (option_map use_of) absent in
      let Q : Option (Frame (List ℕ)) → Type 0 = λ o. HasNew o page in
      record {
        there = subst Q (sym (here pool id bytes true is absent place)) (spells, refl);
        others = others pool id bytes true is absent place;
        uses = brought_told pool id bytes true ∙ ap (λ (b : Bool). cond b (put_last id (filled (tt {0})) (map use_of pool)) (brought id (tt {0}) true (map use_of pool))) (sym (ap (λ (o : Option Use). is_some o) told));
        pool = is_pool pool id bytes true is absent place;
      }

-- ---- pages put, one after the other

pub has_push : (q : ℕ) (done : List (ℕ × Page)) (one : ℕ × Page) → has_page q (done ++ one ∷ []) ≡ (has_page q done || (q == one.0))
has_push q [] one = or-false (q == one.0)
has_push q (x ∷ xs) one = ap (λ (b : Bool). (q == x.0) || b) (has_push q xs one) ∙ sym (or_assoc (q == x.0) (has_page q xs) (q == one.0))

set_push : (done : List (ℕ × Page)) (one : ℕ × Page) (before : ℕ → Option Page) (q : ℕ) → set_pages (done ++ one ∷ []) before q ≡ cond (q == one.0) (Some one.1) (set_pages done before q)
set_push [] one before q = refl
set_push (x ∷ xs) one before q = set_push xs one (λ r. cond (r == x.0) (Some x.1) (before r)) q

use_push : (ids : List ℕ) (id : ℕ) (uses : List Use) → use_changed (ids ++ id ∷ []) uses ≡ use_changed (id ∷ []) (use_changed ids uses)
use_push [] id uses = refl
use_push (x ∷ xs) id uses = use_push xs id (use_changed (x ∷ []) uses)

pub puts_more : (done : List (ℕ × Page)) (one : ℕ × Page) (old mid new : List (Frame (List ℕ))) → PutsAll done old mid → PutsInto one.0 one.1 mid new → PutsAll (done ++ one ∷ []) old new
puts_more done one old mid new all last = record {
  made = λ q before on. elim (cases_Bool (q == one.0)) [
    | inl same ↦
        let at : q ≡ one.0 = eqb-true q one.0 same in
        (one.1, set_push done one before q ∙ ap (λ (b : Bool). cond b (Some one.1) (set_pages done before q)) same, subst (λ (n : ℕ). HasNew (frame_of new n) one.1) (sym at) last.there)
    | inr off ↦
        let earlier = (or_cases (has_page q done) (q == one.0) (sym (has_push q done one) ∙ on)) in
        let done_it : IsTrue (has_page q done) = elim earlier [ inl e ↦ e | inr e ↦ let never : false ≡ true = sym off ∙ e in cc never ] in
        let m = all.made q before done_it in
        (m.0, set_push done one before q ∙ ap (λ (b : Bool). cond b (Some one.1) (set_pages done before q)) off ∙ m.1, new_stays q m.0 (last.others q (unlike q one.0 off)) m.2)
  ];
  others = λ q off.
      let parts = or_parts (has_page q done) (q == one.0) (sym (has_push q done one) ∙ off) in
      left_by_two (frame_of old q) (frame_of mid q) (frame_of new q) (all.others q parts.0) (last.others q (unlike q one.0 parts.1));
  uses =
      last.uses ∙ ap (use_changed (one.0 ∷ [])) all.uses ∙ sym (use_push (numbers_of done) one.0 (map use_of old))
      ∙ ap (λ (ids : List ℕ). use_changed ids (map use_of old)) (sym (map-append (λ (c : ℕ × Page). c.0) done (one ∷ [])));
  pool = last.pool;
}
  where
    unlike : (a b : ℕ) → (a == b) ≡ false → a ≢ b
    unlike a b off same = let never : true ≡ false = sym (eq-eqb a b same) ∙ off in cc never

    -- a page that is dirty stays
    new_stays : (q : ℕ) (page : Page) → MayGoOut (frame_of mid q) (frame_of new q) → HasNew (frame_of mid q) page → HasNew (frame_of new q) page
    new_stays q page leave has = by (frame_of mid q) refl has
      where
        by : (o : Option (Frame (List ℕ))) → frame_of mid q ≡ o → HasNew o page → HasNew (frame_of new q) page
        by None is h = absurd h
        by (Some f) is h =
            let now : frame_of new q ≡ Some f = staying (frame_of mid q) (frame_of new q) f leave is (ap (λ (b : Bool). b || not (f.pins == 0)) h.1) in
            let Q : Option (Frame (List ℕ)) → Type 0 = λ o. HasNew o page in
            subst Q (sym now) h
