-- The pages that a log touches are written one after another.
use Rattle.std.proofs.Common.{◌≡◌, inl, inr, ℕ, zero, suc, ◌+◌, ◌<◌, ◌≤◌, List, Option, Some, None, Result, Ok, refl, sym, ap, ◌∙◌, subst, arith}
use Rattle.std.proofs.lemmas.Bool.{cases_eq, cases_lt}
use Rattle.std.proofs.Math.Nat.{eq-or-lt_of_le}
use Rattle.hb_space.specs.declared.form.TheConstants.{PAGE}
use Rattle.hb_disk.specs.Model.{DiskModel, IsDisk, Torn}
use Rattle.hb_disk.specs.Calls.{Ticks, Becomes}
use Rattle.hb_disk.proofs.Facts.RunLaws.{one_tick}
use Rattle.hb_disk.proofs.Facts.SyncedLaws.{told_elsewhere}
use Rattle.hb_lemmas.proofs.Options.{has_value}
use Rattle.std.proofs.lemmas.Option.{same_Some}
use Rattle.hb_frag.specs.declared.pages.Page.{Page}
use Rattle.hb_frag.specs.Grammar.{SpellsPage}
use Rattle.hb_layout.specs.declared.meta.Meta.{Meta}
use Rattle.hb_layout.specs.Offsets.{page_offset}
use Rattle.hb_store.specs.Opening.{place_bytes}
use Rattle.hb_restart.specs.Renewing.{one_for, touched_to, WritesEachOnce, WritesAll, IsWrittenTo}
use Rattle.hb_store.proofs.Facts.PlaceWrites.{Tore, ok_tick, other_place, tore}
use Rattle.hb_disk.proofs.Facts.RewriteLaws.{Becomes-tells}

-- the count doesn't fall
pub touched_more : (touched : ℕ → Option Page) (m n : ℕ) → m ≤ n → touched_to touched m ≤ touched_to touched n
touched_more touched m zero le =
    let none : m ≡ 0 = omega (arith, le) in
    let T : ℕ → Type 0 = λ k. touched_to touched k ≤ 0 in
    subst T (sym none) (omega arith)
touched_more touched m (suc n) le = elim (cases_eq m (suc n)) [
  | inl same ↦ let T : ℕ → Type 0 = λ k. touched_to touched k ≤ touched_to touched (suc n) in subst T (sym same) (omega arith)
  | inr other ↦ let before = touched_more touched m n (omega (arith, le, other)) in omega (arith, before)
]

-- a touched page is one more
pub touched_one : (touched : ℕ → Option Page) (before : ℕ) (page : Page) → touched (suc before) ≡ Some page → touched_to touched (suc before) ≡ touched_to touched before + 1
touched_one touched before page is = ap (λ (o : Option Page). touched_to touched before + one_for o) is

-- and one that isn't touched is none
pub touched_none : (touched : ℕ → Option Page) (before : ℕ) → touched (suc before) ≡ None → touched_to touched (suc before) ≡ touched_to touched before
touched_none touched before is = ap (λ (o : Option Page). touched_to touched before + one_for o) is ∙ (let e : touched_to touched before + 0 ≡ touched_to touched before = omega arith in e)

-- the count is the same for what is touched in the same way
pub same_count : (touched other : ℕ → Option Page) → ((id : ℕ) → touched id ≡ other id) → (n : ℕ) → touched_to touched n ≡ touched_to other n
same_count touched other same zero = refl
same_count touched other same (suc n) =
    ap (λ (k : ℕ). k + one_for (touched (suc n))) (same_count touched other same n) ∙ ap (λ (o : Option Page). touched_to other n + one_for o) (same (suc n))

module _ (from : ℕ) (bytes : List ℕ) (meta : Meta) (touched : ℕ → Option Page) where
  -- before the first page
  pub written_none : (d : DiskModel) → d.told ≡ Some bytes → d.clock ≡ from → IsWrittenTo 0 from bytes meta touched d
  written_none d told clock = record {
    tells = has_value d.told bytes told;
    time = (let e : d.clock ≡ from + 0 = omega (arith, clock) in e);
    written = λ id page some most is c here. absurd (omega (arith, some, most));
    waits = λ id behind c here. as_read id c here;
    others = λ id some none c here. as_read id c here;
  }
    where
      as_read : (id : ℕ) (c : List ℕ) → d.told ≡ Some c → place_bytes meta id c ≡ place_bytes meta id bytes
      as_read id c here = ap (λ (l : List ℕ). place_bytes meta id l) (same_Some c bytes (sym here ∙ told))

  -- Between two calls each page has been written or has not.
  pub between : (last : ℕ) (d : DiskModel) → IsWrittenTo last from bytes meta touched d → WritesEachOnce from bytes meta touched d
  between last d stands = record {
    written = λ id page some most is later c here. elim (cases_lt last id) [
      | inl behind ↦ let more = touched_more touched last id (omega (arith, behind)) in absurd (omega (arith, more, later, stands.time))
      | inr before ↦ stands.written id page some before is c here
    ];
    waits = λ id some most early c here. elim (cases_lt last id) [
      | inl behind ↦ stands.waits id behind c here
      | inr before ↦ let more = touched_more touched id last before in absurd (omega (arith, more, early, stands.time))
    ];
    others = stands.others;
  }

  -- the page of the next number, where the log doesn't touch it
  pub written_untouched : (before at : ℕ) (d : DiskModel) → before + 1 ≡ at → touched at ≡ None → IsWrittenTo before from bytes meta touched d → IsWrittenTo at from bytes meta touched d
  written_untouched before at d is_at none stands = record {
    tells = stands.tells;
    time = stands.time ∙ ap (λ (n : ℕ). from + n) (sym (touched_none touched before none_next) ∙ ap (λ (n : ℕ). touched_to touched n) next);
    written = λ id page some most is c here. elim (cases_eq id at) [
      | inl same ↦ absurd (let T : ℕ → Type 0 = λ n. touched n ≡ None in let never : touched id ≡ None = subst T (sym same) none in cc (is, never))
      | inr other ↦ stands.written id page some (omega (arith, most, other, is_at)) is c here
    ];
    waits = λ id behind c here. stands.waits id (omega (arith, behind, is_at)) c here;
    others = stands.others;
  }
    where
      next : suc before ≡ at
      next = omega (arith, is_at)

      none_next : touched (suc before) ≡ None
      none_next = let T : ℕ → Type 0 = λ n. touched n ≡ None in subst T (sym next) none

  -- A call that may change the place of the next page, which the log touches.
  module _ {T E : Type 0} (r : Result T E) (old new : DiskModel) (is_old : IsDisk old) (before at : ℕ) (is_at : before + 1 ≡ at) (q : Page) (is_q : touched at ≡ Some q)
      (stands : IsWrittenTo before from bytes meta touched old) (ticks : Ticks r old new) (run : Becomes (Torn (page_offset meta at) PAGE) old new) where
    tears : Tore old new (page_offset meta at) PAGE
    tears = tore old new (page_offset meta at) PAGE stands.tells run

    one_more : touched_to touched at ≡ touched_to touched before + 1
    one_more =
        let next : suc before ≡ at = omega (arith, is_at) in
        let Q : ℕ → Type 0 = λ n. touched n ≡ Some q in
        ap (λ (n : ℕ). touched_to touched n) (sym next) ∙ touched_one touched before q (subst Q (sym next) is_q)

    -- the place of another page is as it was
    elsewhere : (id : ℕ) → 1 ≤ id → (id ≡ at → ⊥) → (c : List ℕ) → new.told ≡ Some c → place_bytes meta id c ≡ place_bytes meta id tears.before
    elsewhere id some other c told =
        told_elsewhere old new tears.before c (page_offset meta id) PAGE (page_offset meta at) PAGE tears.was told (other_place meta id at some (omega (arith, is_at)) other) run

    elsewhere_spelled : (id : ℕ) (page : Page) → 1 ≤ id → (id ≡ at → ⊥) → SpellsPage (place_bytes meta id tears.before) page → (c : List ℕ) → new.told ≡ Some c → SpellsPage (place_bytes meta id c) page
    elsewhere_spelled id page some other spells c told = let S : List ℕ → Type 0 = λ l. SpellsPage l page in subst S (sym (elsewhere id some other c told)) spells

    untouched_still : (id : ℕ) → 1 ≤ id → touched id ≡ None → (c : List ℕ) → new.told ≡ Some c → place_bytes meta id c ≡ place_bytes meta id bytes
    untouched_still id some none c told =
        elsewhere id some (λ same. let Q : ℕ → Type 0 = λ n. touched n ≡ Some q in let never : touched id ≡ Some q = subst Q (sym same) is_q in cc (none, never)) c told
        ∙ stands.others id some none tears.before tears.was

    waits_still : (id : ℕ) → 1 ≤ id → new.clock < from + touched_to touched id → (c : List ℕ) → new.told ≡ Some c → place_bytes meta id c ≡ place_bytes meta id bytes
    waits_still id some early c told = elim (cases_lt before id) [
      | inr reached ↦ let more = touched_more touched id before reached in absurd (omega (arith, more, early, stands.time, ticks.later))
      | inl behind ↦ elim (eq-or-lt_of_le is_old.clock_fits) [
        | inl at_end ↦ stands.waits id behind c (sym (ticks.ended stands.tells at_end).1.told ∙ told)
        | inr counts ↦
            let here = ticks.tick stands.tells counts in
            elsewhere id some (λ same. let count : touched_to touched id ≡ touched_to touched at = ap (λ (n : ℕ). touched_to touched n) same in omega (arith, count, one_more, early, here, stands.time)) c told
            ∙ stands.waits id behind tears.before tears.was
      ]
    ]

    -- whether it fails or not
    pub while_written : WritesEachOnce from bytes meta touched new
    while_written = record {
      written = λ id page some most is later c told. elim (cases_lt before id) [
        | inl behind ↦
            let more = touched_more touched at id (omega (arith, behind, is_at)) in
            let tick = one_tick r old new is_old ticks stands.tells in
            absurd (omega (arith, more, one_more, later, tick, stands.time))
        | inr reached ↦ elsewhere_spelled id page some (λ same. omega (arith, same, reached, is_at)) (stands.written id page some reached is tears.before tears.was) c told
      ];
      waits = λ id some most early c told. waits_still id some early c told;
      others = untouched_still;
    }

    -- and once it succeeded
    pub written_there : (v : T) → r ≡ Ok v → ((b : List ℕ) → new.told ≡ Some b → SpellsPage (place_bytes meta at b) q) → IsWrittenTo at from bytes meta touched new
    written_there v ok there = record {
      tells = Becomes-tells (Torn (page_offset meta at) PAGE) old new run stands.tells;
      time = (let tick = ok_tick r v old new ok is_old stands.tells ticks in omega (arith, tick, stands.time, one_more));
      written = λ id page some most is c told. elim (cases_eq id at) [
        | inl same ↦
            let Q : ℕ → Type 0 = λ n. touched n ≡ Some page in
            let page_is : q ≡ page = same_Some q page (sym is_q ∙ subst Q same is) in
            let S : Page → Type 0 = λ x. SpellsPage (place_bytes meta at c) x in
            let N : ℕ → Type 0 = λ n. SpellsPage (place_bytes meta n c) page in
            subst N (sym same) (subst S page_is (there c told))
        | inr other ↦ elsewhere_spelled id page some other (stands.written id page some (omega (arith, most, other, is_at)) is tears.before tears.was) c told
      ];
      waits = λ id behind c told. elsewhere id (omega (arith, behind, is_at)) (λ same. omega (arith, same, behind)) c told ∙ stands.waits id (omega (arith, behind, is_at)) tears.before tears.was;
      others = untouched_still;
    }

  -- Behind the last page no call changes the place of any.
  module _ (old new : DiskModel) (stands : IsWrittenTo meta.high from bytes meta touched old) (later : old.clock ≤ new.clock) (run : Becomes (Torn 0 (page_offset meta 1)) old new) where
    front : Tore old new 0 (page_offset meta 1)
    front = tore old new 0 (page_offset meta 1) stands.tells run

    page_kept : (id : ℕ) (c : List ℕ) → new.told ≡ Some c → place_bytes meta id c ≡ place_bytes meta id front.before
    page_kept id c told = told_elsewhere old new front.before c (page_offset meta id) PAGE 0 (page_offset meta 1) front.was told (inr (omega arith)) run

    pub behind_all : WritesEachOnce from bytes meta touched new
    behind_all = record {
      written = λ id page some most is late c told. let S : List ℕ → Type 0 = λ l. SpellsPage l page in
          subst S (sym (page_kept id c told)) (stands.written id page some most is front.before front.was);
      waits = λ id some most early c told. let more = touched_more touched id meta.high most in absurd (omega (arith, more, early, later, stands.time));
      others = λ id some none c told. page_kept id c told ∙ stands.others id some none front.before front.was;
    }

    pub all_written : new.clock ≤ old.clock + 11 → WritesAll from bytes meta touched new
    all_written few = record {
      each = behind_all;
      least = omega (arith, later, stands.time);
      most = omega (arith, few, stands.time);
    }

  -- No page is written where the clock has not gone beyond its beginning, and the disk reads as at first.
  pub none_written : (d : DiskModel) → d.told ≡ Some bytes → d.clock ≤ from → WritesEachOnce from bytes meta touched d
  none_written d told early = record {
    written = λ id page some most is later c here. absurd (omega (arith, later, early));
    waits = λ id some most less c here. as_read id c here;
    others = λ id some none c here. as_read id c here;
  }
    where
      as_read : (id : ℕ) (c : List ℕ) → d.told ≡ Some c → place_bytes meta id c ≡ place_bytes meta id bytes
      as_read id c here = ap (λ (l : List ℕ). place_bytes meta id l) (same_Some c bytes (sym here ∙ told))

  -- the same of pages that are touched in the same way
  module _ (other : ℕ → Option Page) (same : (id : ℕ) → touched id ≡ other id) (d : DiskModel) where
    pub also_each : WritesEachOnce from bytes meta touched d → WritesEachOnce from bytes meta other d
    also_each each = record {
      written = λ id page some most is later c here. let count = same_count touched other same id in each.written id page some most (same id ∙ is) (omega (arith, count, later)) c here;
      waits = λ id some most early c here. let count = same_count touched other same id in each.waits id some most (omega (arith, count, early)) c here;
      others = λ id some none c here. each.others id some (same id ∙ none) c here;
    }

    pub also_all : WritesAll from bytes meta touched d → WritesAll from bytes meta other d
    also_all all = record {
      each = also_each all.each;
      least = let count = same_count touched other same meta.high in let least = all.least in omega (arith, count, least);
      most = let count = same_count touched other same meta.high in let most = all.most in omega (arith, count, most);
    }
