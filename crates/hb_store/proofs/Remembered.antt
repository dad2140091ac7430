-- What a store has in memory, once its frames changed.
use Rattle.std.proofs.Common.{◌≡◌, ◌≢◌, ◌⊎◌, inl, inr, ℕ, ◌<◌, ◌≤◌, ◌==◌, Bool, true, false, not, List, map, Option, Some, None, IsTrue, refl, sym, ap, subst, ◌∙◌, ne_eqb}
use Rattle.std.specs.Prelude.{◌||◌, ◌&&◌, IfSome, IsSomeAnd}
use Rattle.std.specs.Option.{is_some, option_map}
use Rattle.std.specs.Ordering.{nat_cmp}
use Rattle.std.specs.FinSet as set
use Rattle.std.proofs.lemmas.Bool.{cases_eq, eq-eqb, or_parts}
use Rattle.hb_lemmas.proofs.Options.{not_none}
use Rattle.hb_frag.specs.declared.pages.Page.{Page}
use Rattle.hb_frag.specs.Grammar.{SpellsPage}
use Rattle.hb_layout.specs.declared.meta.Meta.{Meta}
use Rattle.hb_wal.specs.Log.{LogState}
use Rattle.hb_page_codec.specs.ReadingPages.{page_of_bytes}
use Rattle.hb_pool.specs.Frames.{Frame, IsStaying, must_stay, use_of}
use Rattle.hb_pool.specs.Pools.{IsPool, brought, frame_of, places}
use Rattle.hb_view.specs.Spelled.{page_or, page_spelled}
use Rattle.hb_store.specs.Calls.{Fetched, NoneComes, StaysHere}
use Rattle.hb_view.proofs.Facts.Decoded.{is_decoded}
use Rattle.hb_store.specs.Filling.{HasNew, MayGoOut, PutsAll, in_frame}
use Rattle.hb_ops.specs.SetPages.{has_page, set_pages}
use Rattle.hb_store.specs.Inside.{AreSpelled}
use Rattle.hb_store.specs.Replaying.{IsPageOf}
use Rattle.hb_store.specs.States.{IsGoodPage, IsMemory, StoreState, in_memory}
use Rattle.hb_store.proofs.Filled.{dirty_brought, here, is_pool, others, staying}
use Rattle.hb_store.proofs.Framed.{frame_and, held_of, less_marks, mark_of, mark_seen, page_seen, same_marks, same_pages}

abbrev Spells : Frame (List ℕ) → Type 0
Spells f = SpellsPage f.bytes (page_spelled f.bytes)

abbrev page_had : Option (Frame (List ℕ)) → Option Page
page_had o = option_map (λ (f : Frame (List ℕ)). page_spelled f.bytes) o

-- ---- one page's frame changed, and its page is the same

module _ (pool new : List (Frame (List ℕ))) (id : ℕ) (change : Frame (List ℕ) → Frame (List ℕ)) (at : frame_of new id ≡ option_map change (frame_of pool id)) (off : (q : ℕ) → q ≢ id → frame_of new q ≡ frame_of pool q)
    (same : (f : Frame (List ℕ)) → (change f).bytes ≡ f.bytes) where
  page_kept : (o : Option (Frame (List ℕ))) → page_had (option_map change o) ≡ page_had o
  page_kept None = refl
  page_kept (Some f) = ap (λ (b : List ℕ). Some (page_spelled b)) (same f)

  spells_still : (o : Option (Frame (List ℕ))) → IfSome o Spells → IfSome (option_map change o) Spells
  spells_still None h = tt
  spells_still (Some f) h = subst (λ (b : List ℕ). SpellsPage b (page_spelled b)) (sym (same f)) h

  pub changed_pages : (q : ℕ) → in_frame new q ≡ in_frame pool q
  changed_pages q = elim (cases_eq q id) [
    | inl is ↦ ap (in_frame new) is ∙ ap page_had at ∙ page_kept (frame_of pool id) ∙ ap (in_frame pool) (sym is)
    | inr other ↦ ap page_had (off q other)
  ]

  pub changed_spelled : AreSpelled pool → AreSpelled new
  changed_spelled each q =
      let Q : Option (Frame (List ℕ)) → Type 0 = λ o. IfSome o Spells in
      elim (cases_eq q id) [
        | inl is ↦ subst Q (sym (ap (frame_of new) is ∙ at)) (spells_still (frame_of pool id) (each id))
        | inr other ↦ subst Q (sym (off q other)) (each q)
      ]

  module _ (mark : (f : Frame (List ℕ)) → (change f).dirty ≡ f.dirty) where
    mark_kept : (o : Option (Frame (List ℕ))) → mark_of (option_map change o) ≡ mark_of o
    mark_kept None = refl
    mark_kept (Some f) = mark f

    pub changed_marks : (q : ℕ) → mark_of (frame_of new q) ≡ mark_of (frame_of pool q)
    changed_marks q = elim (cases_eq q id) [
      | inl is ↦ ap (λ (n : ℕ). mark_of (frame_of new n)) is ∙ ap mark_of at ∙ mark_kept (frame_of pool id) ∙ ap (λ (n : ℕ). mark_of (frame_of pool n)) (sym is)
      | inr other ↦ ap mark_of (off q other)
    ]

  module _ (mark : (f : Frame (List ℕ)) → (change f).dirty ≡ false) where
    mark_gone : (o : Option (Frame (List ℕ))) → mark_of (option_map change o) ≡ false
    mark_gone None = refl
    mark_gone (Some f) = mark f

    pub cleaned_marks : (q : ℕ) → mark_of (frame_of new q) ≡ (not (q == id) && mark_of (frame_of pool q))
    cleaned_marks q = elim (cases_eq q id) [
      | inl is ↦
          ap (λ (n : ℕ). mark_of (frame_of new n)) is ∙ ap mark_of at ∙ mark_gone (frame_of pool id)
          ∙ ap (λ (b : Bool). not b && mark_of (frame_of pool q)) (sym (eq-eqb q id is))
      | inr other ↦ ap mark_of (off q other) ∙ ap (λ (b : Bool). not b && mark_of (frame_of pool q)) (sym (ne_eqb q id other))
    ]

-- ---- what is seen then

module _ (turn : ℕ) (meta : Meta) (log : LogState) (s : set.FinSet nat_cmp) (stopped : Bool) where
  abbrev pub seen : List (Frame (List ℕ)) → StoreState
  seen pool = (held_of turn meta log pool s stopped).state

  -- frames that answer alike
  pub seen_same : (old new : List (Frame (List ℕ))) → IsPool old → IsPool new → ((q : ℕ) → in_frame new q ≡ in_frame old q) → ((q : ℕ) → mark_of (frame_of new q) ≡ mark_of (frame_of old q)) → seen new ≡ seen old
  seen_same old new was is pages marks = λ i. record {
    turn = turn;
    meta = meta;
    log = log;
    pages = same_pages old new pages i;
    in_log = s;
    dirty = same_marks old new was is marks i;
    stopped = stopped;
  }

  -- one that isn't dirty any more
  pub seen_cleaned : (old new : List (Frame (List ℕ))) (id : ℕ) → IsPool old → IsPool new → ((q : ℕ) → in_frame new q ≡ in_frame old q) → ((q : ℕ) → mark_of (frame_of new q) ≡ (not (q == id) && mark_of (frame_of old q)))
      → ◌≡◌ {A = StoreState} (seen new) (record { turn = turn; meta = meta; log = log; pages = (seen old).pages; in_log = (seen old).in_log; dirty = set.remove (seen old).dirty id; stopped = stopped })
  seen_cleaned old new id was is pages marks = λ i. record {
    turn = turn;
    meta = meta;
    log = log;
    pages = same_pages old new pages i;
    in_log = s;
    dirty = less_marks old new id was is marks i;
    stopped = stopped;
  }

  -- what frames say of a page
  module _ (old : List (Frame (List ℕ))) (mem : IsMemory (seen old)) where
    -- a page that is there is good
    pub good_there : (q : ℕ) (page : Page) → in_frame old q ≡ Some page → (1 ≤ q) × (q ≤ meta.high) × IsGoodPage meta page
    good_there q page is = mem.good q page (page_seen old q ∙ is)

    -- fewer pages, and fewer dirty ones, are a memory too
    pub memory_over : (new : List (Frame (List ℕ))) → IsPool old → IsPool new → ((q : ℕ) (page : Page) → in_frame new q ≡ Some page → (1 ≤ q) × (q ≤ meta.high) × IsGoodPage meta page)
        → ((q : ℕ) → mark_of (frame_of new q) ≡ true → mark_of (frame_of old q) ≡ true) → IsMemory (seen new)
    memory_over new was is good marks = record {
      stands = mem.stands;
      area = mem.area;
      len = mem.len;
      good = λ q page there. good q page (sym (page_seen new q) ∙ there);
      in_file = mem.in_file;
      logged = λ q on. mem.logged q (mark_seen old q was ∙ marks q (sym (mark_seen new q is) ∙ on));
    }

-- ---- a page that comes in, clean

unmarked_left : (o : Option (Frame (List ℕ))) → IsSomeAnd o (λ (f : Frame (List ℕ)). must_stay f ≡ false) → mark_of o ≡ false
unmarked_left None h = refl
unmarked_left (Some f) h = (or_parts f.dirty (not (f.pins == 0)) h).0

page_left : (o n : Option (Frame (List ℕ))) → MayGoOut o n → (page_had n ≡ page_had o) ⊎ ((page_had n ≡ None) × (mark_of o ≡ false))
page_left o n (inl same) = inl (ap page_had same)
page_left o n (inr left) = inr (ap page_had left.0, unmarked_left o left.1)

-- what may leave leaves the page that was there, or none
page_after : (o n : Option (Frame (List ℕ))) (page : Page) → MayGoOut o n → page_had n ≡ Some page → page_had o ≡ Some page
page_after o n page leave is = elim (page_left o n leave) [
  | inl same ↦ sym same ∙ is
  | inr left ↦ absurd (not_none (page_had n) page is left.0)
]

mark_after : (o n : Option (Frame (List ℕ))) → MayGoOut o n → mark_of n ≡ true → mark_of o ≡ true
mark_after o n (inl same) on = ap mark_of (sym same) ∙ on
mark_after o n (inr left) on = let never : false ≡ true = sym (ap mark_of left.0) ∙ on in cc never

-- no page comes where a frame may leave alone
pub none_comes : (turn : ℕ) (meta other_meta : Meta) (log other_log : LogState) (s t : set.FinSet nat_cmp) (stopped : Bool) (old new : List (Frame (List ℕ))) (q : ℕ) → IsPool old → MayGoOut (frame_of old q) (frame_of new q)
    → NoneComes (seen turn meta log s stopped old) (seen turn other_meta other_log t stopped new) q
none_comes turn meta other_meta log other_log s t stopped old new q was leave = elim (page_left (frame_of old q) (frame_of new q) leave) [
  | inl same ↦ inl (page_seen new q ∙ same ∙ sym (page_seen old q))
  | inr left ↦ inr (page_seen new q ∙ left.0, mark_seen old q was ∙ left.1)
]

-- and a page that stays is there as it was
pub stays_same : (old new : List (Frame (List ℕ))) (q : ℕ) → MayGoOut (frame_of old q) (frame_of new q) → StaysHere (map use_of old) q → in_frame new q ≡ in_frame old q
stays_same old new q leave stays =
    let f = frame_and old q IsStaying stays in
    ap page_had (staying (frame_of old q) (frame_of new q) f.0 leave f.1 f.2) ∙ ap page_had (sym f.1)

module _ (turn : ℕ) (meta : Meta) (log : LogState) (s : set.FinSet nat_cmp) (stopped : Bool) (pool : List (Frame (List ℕ))) (id : ℕ) (bytes : List ℕ)
    (is : IsPool pool) (absent : frame_of pool id ≡ None) (place : 0 < places pool) where
  abbrev now : List (Frame (List ℕ))
  now = brought id bytes false pool

  abbrev st : StoreState
  st = seen turn meta log s stopped pool

  abbrev after : StoreState
  after = seen turn meta log s stopped now

  page_here : in_frame now id ≡ Some (page_spelled bytes)
  page_here = ap page_had (here pool id bytes false is absent place)

  pub there_then : (page : Page) → page_of_bytes bytes ≡ Some page → in_memory after id ≡ page_of_bytes bytes
  there_then page read = page_seen now id ∙ page_here ∙ ap Some (ap page_or read) ∙ sym read

  pub fetched_then : Fetched id st after
  fetched_then = record {
    rest = ap (λ (l : List ℕ). let st : StoreState = record after { dirty = set.from_list {R = nat_cmp} l } in st) (dirty_brought pool id bytes);
    there = ap (λ (o : Option Page). is_some o) (page_seen now id ∙ page_here);
    same = λ some. let never : false ≡ true = sym (ap (λ (o : Option Page). is_some o) (page_seen pool id ∙ ap page_had absent)) ∙ some in cc never;
    others = λ q other. none_comes turn meta meta log log s s stopped pool now q is (others pool id bytes false is absent place q other);
  }

  pub stays_then : (q : ℕ) → StaysHere (map use_of pool) q → in_memory after q ≡ in_memory st q
  stays_then q stays =
      let f = frame_and pool q IsStaying stays in
      let other : q ≢ id = λ same. not_none (frame_of pool q) f.0 f.1 (ap (frame_of pool) same ∙ absent) in
      page_seen now q ∙ stays_same pool now q (others pool id bytes false is absent place q other) stays ∙ sym (page_seen pool q)

  pub memory_then : IsMemory st → IsPageOf meta id → (page : Page) → page_of_bytes bytes ≡ Some page → IsGoodPage meta page → IsMemory after
  memory_then mem at page read good =
      memory_over turn meta log s stopped pool mem now is (is_pool pool id bytes false is absent place)
      (λ q found there. elim (cases_eq q id) [
        | inl same ↦
            let found_is : Some page ≡ Some found = sym (ap Some (ap page_or read)) ∙ sym page_here ∙ ap (in_frame now) (sym same) ∙ there in
            let same_page : page ≡ found = cc in
            subst (λ (n : ℕ). (1 ≤ n) × (n ≤ meta.high) × IsGoodPage meta found) (sym same) (at.0, at.1, subst (IsGoodPage meta) same_page good)
        | inr other ↦ good_there turn meta log s stopped pool mem q found (page_after (frame_of pool q) (frame_of now q) found (others pool id bytes false is absent place q other) there)
      ])
      (λ q on. elim (cases_eq q id) [
        | inl same ↦ let never : false ≡ true = sym (ap mark_of (ap (frame_of now) same ∙ here pool id bytes false is absent place)) ∙ on in cc never
        | inr other ↦ mark_after (frame_of pool q) (frame_of now q) (others pool id bytes false is absent place q other) on
      ])

-- ---- pages that were put

module _ (pages : List (ℕ × Page)) (old new : List (Frame (List ℕ))) (puts : PutsAll pages old new) (was : IsPool old) where
  has_that : (o : Option (Frame (List ℕ))) (page : Page) → HasNew o page → (page_had o ≡ Some page) × (mark_of o ≡ true)
  has_that None page h = absurd h
  has_that (Some f) page h = (ap Some (sym (is_decoded f.bytes page h.0)), h.1)

  pub put_made : (q : ℕ) (before : ℕ → Option Page) → IsTrue (has_page q pages) → in_frame new q ≡ set_pages pages before q
  put_made q before on = let m = puts.made q before on in (has_that (frame_of new q) m.0 m.2).0 ∙ sym m.1

  pub put_marks : (q : ℕ) → mark_of (frame_of new q) ≡ (has_page q pages || mark_of (frame_of old q))
  put_marks q = elim (has_page q pages) as (λ b. has_page q pages ≡ b → mark_of (frame_of new q) ≡ (b || mark_of (frame_of old q))) [
    | true ↦ λ on. let m = puts.made q (λ r. None) on in (has_that (frame_of new q) m.0 m.2).1
    | false ↦ λ off. elim (puts.others q off) [
      | inl same ↦ ap mark_of same
      | inr left ↦ ap mark_of left.0 ∙ sym (unmarked_left (frame_of old q) left.1)
    ]
  ] refl

  spelled_new : (o : Option (Frame (List ℕ))) (page : Page) → HasNew o page → IfSome o Spells
  spelled_new None page h = absurd h
  spelled_new (Some f) page h = subst (λ (p : Page). SpellsPage f.bytes p) (is_decoded f.bytes page h.0) h.0

  spelled_left : (o n : Option (Frame (List ℕ))) → MayGoOut o n → IfSome o Spells → IfSome n Spells
  spelled_left o n (inl same) h = let Q : Option (Frame (List ℕ)) → Type 0 = λ p. IfSome p Spells in subst Q (sym same) h
  spelled_left o n (inr left) h = let Q : Option (Frame (List ℕ)) → Type 0 = λ p. IfSome p Spells in subst Q (sym left.0) tt

  pub put_spelled : AreSpelled old → AreSpelled new
  put_spelled each q = elim (has_page q pages) as (λ b. has_page q pages ≡ b → IfSome (frame_of new q) Spells) [
    | true ↦ λ on. let m = puts.made q (λ r. None) on in spelled_new (frame_of new q) m.0 m.2
    | false ↦ λ off. spelled_left (frame_of old q) (frame_of new q) (puts.others q off) (each q)
  ] refl
