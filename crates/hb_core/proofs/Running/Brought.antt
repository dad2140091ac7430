-- A page that is fetched comes into the memory of each machine that a core shows.
use Rattle.hb_core.proofs.Running.Names.{◌≡◌, ◌⊎◌, inl, inr, ℕ, ◌≤◌, ◌==◌, List, Option, Some, None, IfSome, IsSome, refl, sym, ap, ◌∙◌, subst, nat_cmp, cases_Bool, eqb-true, eqb-false, DiskModel, Page, Meta, at_value, has_value, not_none, some_value, FileState, page_of, Use, Fetched, KeepsAllButPages, LooksUp, StoreKeeps, IsGoodPage, IsMemory, StoreState, in_memory, Brings, MustStay, LatchesFit, Files, Machine, current_file, modes, with_disk, with_uses, same_held, HeldModes, with_order_of_use, with_store, RunningCore, ShowsFiles, ShowsMachine}
use Rattle.std.specs.FinSet as set
use Rattle.hb_lemmas.proofs.Options.{of_value}
use Rattle.hb_store.specs.Calls.{NoneComes}
use Rattle.hb_core.proofs.Running.ForcedShows.{shown_with}

module _ (m : Machine) (d e : DiskModel) (c : RunningCore) (failed : Type 0) (st : StoreState) (shows : ShowsMachine d c m) (looks : LooksUp failed d e c.store st) where
  keeps_files : (durable : FileState) (later : List FileState) → StoreKeeps d m.store durable later → StoreKeeps e st durable later
  keeps_files durable later kept = looks.keeps durable later (subst (λ (x : StoreState). StoreKeeps d x durable later) shows.store kept)

  files_then : ShowsFiles d m → ShowsFiles e (with_disk st m.files m.clock m)
  files_then s = record {
    files = s.files;
    told = s.told;
    kept = keeps_files s.files.durable s.files.later s.kept;
    clock = s.clock ∙ sym looks.only.stays.clock;
  }

  -- the core shows the machine with the pages that it has now, in their order of use
  pub shows_store : modes (with_disk st m.files m.clock m) ≡ modes m → (uses : List Use) → ShowsMachine e (with_order_of_use uses (with_store st c)) (with_uses uses (with_disk st m.files m.clock m))
  shows_store held uses = shown_with d e c st uses m shows st uses m.files m.clock held refl refl
      (λ told. files_as (files_then (shows.tells (subst (λ (o : Option (List ℕ)). IsSome o) looks.only.stays.told told))))
      (λ none. shows.silent (sym looks.only.stays.told ∙ none))
    where
      files_as : ShowsFiles e (with_disk st m.files m.clock m) → ShowsFiles e (with_uses uses (with_disk st m.files m.clock m))
      files_as s = record { files = s.files; told = s.told; kept = s.kept; clock = s.clock }

  module _ (id : ℕ) (memory : IsMemory st) (fetched : Fetched id c.store st) (stay : (q : ℕ) → MustStay m q → in_memory st q ≡ in_memory m.store q) where
    came : Fetched id m.store st
    came = subst (λ (x : StoreState). Fetched id x st) (sym shows.store) fetched

    other_none : (q : ℕ) → (q ≡ id → ⊥) → in_memory m.store q ≡ None → IsSome (in_memory st q) → ⊥
    other_none q other none there =
        let page = some_value (in_memory st q) there in
        elim (came.others q other) [
          | inl same ↦ not_none (in_memory st q) page.0 page.1 (same ∙ none)
          | inr gone ↦ not_none (in_memory st q) page.0 page.1 gone.0
        ]

    only_this : (q : ℕ) → in_memory m.store q ≡ None → IsSome (in_memory st q) → q ≡ id
    only_this q none there = elim (cases_Bool (q == id)) [
      | inl same ↦ eqb-true q id same
      | inr other ↦ absurd (other_none q (eqb-false q id other) none there)
    ]

    good_by : (q : ℕ) (page : Page) → in_memory st q ≡ Some page → (1 ≤ q) × (q ≤ m.store.meta.high) × IsGoodPage m.store.meta page
    good_by q page there = subst (λ (meta : Meta). (1 ≤ q) × (q ≤ meta.high) × IsGoodPage meta page) (ap (λ (s : StoreState). s.meta) came.rest) (memory.good q page there)

    abbrev IsOfFile : ℕ → Page → Files → Type 0
    IsOfFile q page files = page_of (current_file files) q ≡ Some page

    told_by : (q : ℕ) (page : Page) → in_memory st q ≡ Some page → (o : Option (List ℕ)) → d.told ≡ o → IfSome m.files (IsOfFile q page)
    told_by q page there None none = subst (λ (o : Option Files). IfSome o (IsOfFile q page)) (sym (shows.silent none)) tt
    told_by q page there (Some bytes) told =
        let s = shows.tells (has_value d.told bytes told) in
        of_value m.files (IsOfFile q page) s.files s.told ((keeps_files s.files.durable s.files.later s.kept).memory.cached q page there)

    others_by : (q : ℕ) → IsSome (in_memory m.store q) → (in_memory st q ≡ in_memory m.store q) ⊎ (in_memory st q ≡ None) ⊎ ((m.files ≡ None) × (q ≡ id) × (¬ (MustStay m q)))
    others_by q there = elim (cases_Bool (q == id)) [
      | inl same ↦ inl (subst (λ (n : ℕ). IsSome (in_memory m.store n) → in_memory st n ≡ in_memory m.store n) (sym (eqb-true q id same)) came.same there)
      | inr other ↦ by (came.others q (eqb-false q id other))
    ]
      where
        by : NoneComes m.store st q → (in_memory st q ≡ in_memory m.store q) ⊎ (in_memory st q ≡ None) ⊎ ((m.files ≡ None) × (q ≡ id) × (¬ (MustStay m q)))
        by (inl same) = inl same
        by (inr gone) = inr (inl gone.0)

    pub fetch_brings : Brings m (λ q. q ≡ id) st
    fetch_brings = record {
      rest = came.rest;
      stays = λ q must there. stay q must;
      others = others_by;
      only = only_this;
      good = λ q page there. inr (good_by q page there);
      told = λ q page none there. told_by q page there d.told refl;
    }

-- Two brings in a row make one. Over a disk that tells a page that left and came again is the file's, as it was before.
module _ (m : Machine) (may might : ℕ → Type 0) (fit : LatchesFit m) (st then : StoreState) (uses : List Use) (first : Brings m may st) (second : Brings (with_uses uses (with_disk st m.files m.clock m)) might then)
    (shown : (files : Files) → m.files ≡ Some files → (id : ℕ) (page : Page) → in_memory m.store id ≡ Some page → page_of (current_file files) id ≡ Some page) where
  abbrev middle : Machine
  middle = with_uses uses (with_disk st m.files m.clock m)

  rest_joined : KeepsAllButPages m.store then
  rest_joined = second.rest ∙ ap (λ (s : StoreState). record s { pages = then.pages }) first.rest

  still_must : (id : ℕ) → MustStay m id → MustStay middle id
  still_must id (inl (actor, mode, held)) = inl (actor, mode, ap (λ (t : HeldModes). t actor id) (same_held m may st first fit) ∙ held)
  still_must id (inr dirty) = inr (ap (λ (s : set.FinSet nat_cmp). set.contains s id) (ap (λ (s : StoreState). s.dirty) first.rest) ∙ dirty)

  must_not : (id : ℕ) → (MustStay middle id → ⊥) → MustStay m id → ⊥
  must_not id never must = never (still_must id must)

  some_then : (id : ℕ) → in_memory st id ≡ in_memory m.store id → IsSome (in_memory m.store id) → IsSome (in_memory st id)
  some_then id same there = subst (λ (o : Option Page). IsSome o) (sym same) there

  abbrev AsOne : ℕ → Type 0
  AsOne id = (in_memory then id ≡ in_memory m.store id) ⊎ (in_memory then id ≡ None) ⊎ ((m.files ≡ None) × (may id ⊎ might id) × (¬ (MustStay m id)))

  -- it left, so that it need not stay
  left_may : (id : ℕ) → IsSome (in_memory m.store id) → in_memory st id ≡ None → MustStay m id → ⊥
  left_may id there gone must = let old = some_value (in_memory m.store id) there in not_none (in_memory st id) old.0 (first.stays id must there ∙ old.1) gone

  same_page : (files : Files) (id : ℕ) (old page : Page) → m.files ≡ Some files → in_memory m.store id ≡ Some old → in_memory st id ≡ None → in_memory then id ≡ Some page → in_memory then id ≡ in_memory m.store id
  same_page files id old page told was gone is =
      let file : page_of (current_file files) id ≡ Some page = at_value m.files (λ (f : Files). page_of (current_file f) id ≡ Some page) files told (second.told id page gone is) in
      is ∙ sym file ∙ shown files told id old was ∙ sym was

  came_back : (id : ℕ) → IsSome (in_memory m.store id) → in_memory st id ≡ None → (o : Option Page) → in_memory then id ≡ o → (f : Option Files) → m.files ≡ f → AsOne id
  came_back id there gone None is f told = inr (inl is)
  came_back id there gone (Some page) is None told = inr (inr (told, inr (second.only id gone (has_value (in_memory then id) page is)), left_may id there gone))
  came_back id there gone (Some page) is (Some files) told = let old = some_value (in_memory m.store id) there in inl (same_page files id old.0 page told old.1 gone is)

  others_joined : (id : ℕ) → IsSome (in_memory m.store id) → (in_memory st id ≡ in_memory m.store id) ⊎ (in_memory st id ≡ None) ⊎ ((m.files ≡ None) × may id × (¬ (MustStay m id))) → AsOne id
  others_joined id there (inl same) = elim (second.others id (some_then id same there)) [
    | inl still ↦ inl (still ∙ same)
    | inr (inl gone) ↦ inr (inl gone)
    | inr (inr (silent, comes, never)) ↦ inr (inr (silent, inr comes, must_not id never))
  ]
  others_joined id there (inr (inl gone)) = came_back id there gone (in_memory then id) refl m.files refl
  others_joined id there (inr (inr (silent, comes, never))) = inr (inr (silent, inl comes, never))

  abbrev Comes : (id : ℕ) (page : Page) → Type 0
  Comes id page = (1 ≤ id) × (id ≤ m.store.meta.high) × IsGoodPage m.store.meta page

  good_joined : (id : ℕ) (page : Page) → (in_memory st id ≡ Some page) ⊎ ((1 ≤ id) × (id ≤ st.meta.high) × IsGoodPage st.meta page) → (in_memory m.store id ≡ Some page) ⊎ Comes id page
  good_joined id page (inl was) = first.good id page was
  good_joined id page (inr good) = inr (subst (λ (meta : Meta). (1 ≤ id) × (id ≤ meta.high) × IsGoodPage meta page) (ap (λ (s : StoreState). s.meta) first.rest) good)

  abbrev Told : ℕ → Page → Type 0
  Told id page = IfSome m.files (λ files. page_of (current_file files) id ≡ Some page)

  -- a page that is there afterwards, and wasn't at first, came by one of them
  only_joined : (id : ℕ) → in_memory m.store id ≡ None → IsSome (in_memory then id) → (o : Option Page) → in_memory st id ≡ o → may id ⊎ might id
  only_joined id none there None is = inr (second.only id is there)
  only_joined id none there (Some page) is = inl (first.only id none (has_value (in_memory st id) page is))

  told_nothing : (id : ℕ) (page : Page) → m.files ≡ None → Told id page
  told_nothing id page silent = subst (λ (o : Option Files). IfSome o (λ files. page_of (current_file files) id ≡ Some page)) (sym silent) tt

  told_joined : (id : ℕ) (page : Page) → in_memory m.store id ≡ None → in_memory then id ≡ Some page → (o : Option Page) → in_memory st id ≡ o → Told id page
  told_joined id page none there None is = second.told id page is there
  told_joined id page none there (Some old) is = elim (second.others id (has_value (in_memory st id) old is)) [
    | inl same ↦ first.told id page none (sym same ∙ there)
    | inr (inl gone) ↦ absurd (not_none (in_memory then id) page there gone)
    | inr (inr (silent, comes, never)) ↦ told_nothing id page silent
  ]

  pub brings_joined : Brings m (λ id. may id ⊎ might id) then
  brings_joined = record {
    rest = rest_joined;
    stays = λ id must there. let same = first.stays id must there in second.stays id (still_must id must) (some_then id same there) ∙ same;
    others = λ id there. others_joined id there (first.others id there);
    only = λ id none there. only_joined id none there (in_memory st id) refl;
    good = λ id page there. good_joined id page (second.good id page there);
    told = λ id page none there. told_joined id page none there (in_memory st id) refl;
  }

-- what may come may be said more widely
pub brings_wider : (m : Machine) (may might : ℕ → Type 0) (st : StoreState) → ((id : ℕ) → may id → might id) → Brings m may st → Brings m might st
brings_wider m may might st wider brings = record {
  rest = brings.rest;
  stays = brings.stays;
  others = λ id there. by id (brings.others id there);
  only = λ id none there. wider id (brings.only id none there);
  good = brings.good;
  told = brings.told;
}
  where
    by : (id : ℕ) → (in_memory st id ≡ in_memory m.store id) ⊎ (in_memory st id ≡ None) ⊎ ((m.files ≡ None) × may id × (¬ (MustStay m id))) → (in_memory st id ≡ in_memory m.store id) ⊎ (in_memory st id ≡ None) ⊎ ((m.files ≡ None) × might id × (¬ (MustStay m id)))
    by id (inl same) = inl same
    by id (inr (inl gone)) = inr (inl gone)
    by id (inr (inr (silent, comes, never))) = inr (inr (silent, wider id comes, never))

-- what came has a number, where what was there has
pub brings_numbered : (m : Machine) (may : ℕ → Type 0) (st : StoreState) → ((id : ℕ) → IsSome (in_memory m.store id) → 1 ≤ id) → Brings m may st → Brings m (λ id. may id × (1 ≤ id)) st
brings_numbered m may st numbered brings = record {
  rest = brings.rest;
  stays = brings.stays;
  others = λ id there. by id there (brings.others id there);
  only = λ id none there. let page = some_value (in_memory st id) there in (brings.only id none there, from_1 id page.0 none (brings.good id page.0 page.1));
  good = brings.good;
  told = brings.told;
}
  where
    by : (id : ℕ) → IsSome (in_memory m.store id) → (in_memory st id ≡ in_memory m.store id) ⊎ (in_memory st id ≡ None) ⊎ ((m.files ≡ None) × may id × (¬ (MustStay m id))) → (in_memory st id ≡ in_memory m.store id) ⊎ (in_memory st id ≡ None) ⊎ ((m.files ≡ None) × (may id × (1 ≤ id)) × (¬ (MustStay m id)))
    by id there (inl same) = inl same
    by id there (inr (inl gone)) = inr (inl gone)
    by id there (inr (inr (silent, comes, never))) = inr (inr (silent, (comes, numbered id there), never))

    from_1 : (id : ℕ) (page : Page) → in_memory m.store id ≡ None → (in_memory m.store id ≡ Some page) ⊎ ((1 ≤ id) × (id ≤ m.store.meta.high) × IsGoodPage m.store.meta page) → 1 ≤ id
    from_1 id page none (inl was) = absurd (not_none (in_memory m.store id) page was none)
    from_1 id page none (inr good) = good.0
