-- What an audit's answer says of the bytes of a file that is opened.
use Rattle.std.proofs.Common.{◌≡◌, inl, inr, ℕ, zero, suc, ◌+◌, ◌-◌, ◌*◌, ◌<◌, ◌≤◌, ◌^◌, List, length, take, drop, slice_get, All, Option, Some, None, IfSome, IfErr, Result, Ok, Err, refl, sym, ap, subst, ◌∙◌, arith, length-take}
use Rattle.std.specs.Ordering.{nat_cmp}
use Rattle.std.specs.BTreeMap.{BTreeMap, get}
use Rattle.std.proofs.lemmas.Bool.{cases_lt}
use Rattle.std.proofs.lemmas.List.{get_or-drop, get_or_past}
use Rattle.std.proofs.lemmas.List.Elements.{All-get_or}
use Rattle.hb_outside.specs.Calls.{Counts}
use Rattle.hb_disk.specs.Model.{DiskModel, Stays}
use Rattle.hb_disk.specs.Calls.{OnlyReads, ReadsOnly}
use Rattle.hb_outside.proofs.Facts.CountLaws.{Counts-as}
use Rattle.hb_lemmas.proofs.Options.{at_value, if_value}
use Rattle.hb_frag.specs.declared.pages.Page.{Page}
use Rattle.hb_frag.specs.Grammar.{SpellsPage}
use Rattle.hb_layout.specs.declared.meta.Meta.{Meta}
use Rattle.hb_layout.specs.Limits.{IsLayout}
use Rattle.hb_page_codec.specs.Exact.{AreBytes, PagesAreExact}
use Rattle.hb_page_codec.specs.ReadingPages.{page_of_bytes}
use Rattle.hb_ops.specs.Files.{page_of}
use Rattle.hb_sound.specs.Names.{IsSoundWith, Names}
use Rattle.hb_sound.specs.Stops.{OnBroken}
use Rattle.hb_sound.specs.declared.pages.AuditStop.{AuditStop}
use Rattle.hb_sound.specs.declared.pages.AuditStop.TheVariants as stops
use Rattle.hb_sound.specs.Told.{IsHole, IsWholeFile, file_of, shown_pages}
use Rattle.hb_store.specs.States.{IsSameLayout}
use Rattle.hb_store.specs.Opening.{IsPageIn, Shows, place_bytes}
use Rattle.hb_store.specs.Replay.{Replayed, untouched, replay}
use Rattle.hb_restart.specs.Refusals.{IsRefusal, IsShut, IsUnsound, LacksPage, RefusesBytes}
use Rattle.hb_restart.specs.Found.{IsFoundIn, IsReadIn, audit_fault, touched_pages}
use Rattle.hb_restart.specs.Source.{touched_or, page_there, pages_from, told_pages}
use Rattle.hb_restart.specs.declared.faults.OpenFault.{OpenFault}
use Rattle.hb_restart.specs.declared.faults.OpenFault.TheVariants as faults
use Rattle.hb_restart.specs.declared.reading.LogRead.{LogRead}
use Rattle.hb_ops.proofs.Facts.FilePages.{page_in_range}
use Rattle.hb_ops.proofs.Facts.PageNumberLaws.{page_at-suc}
use Rattle.hb_restart.proofs.Told.{front_at, shown_each, told_at, told_is, told_long}
use Rattle.hb_page_codec.proofs.Facts.Fields.{AreBytes-take}

pub place_is_bytes : (said : Meta) (id : ℕ) (b : List ℕ) → AreBytes b → AreBytes (place_bytes said id b)
place_is_bytes said id b are = AreBytes-take 4096 (drop (8192 + 2 * said.log + 4096 * (id - 1)) b) (λ i. let e = get_or-drop (8192 + 2 * said.log + 4096 * (id - 1)) b i 0 in let there = are (8192 + 2 * said.log + 4096 * (id - 1) + i) in omega (arith, e, there))

pub disk_bytes : (b : List ℕ) → All (λ x. x < 2 ^ 8) b → AreBytes b
disk_bytes b all i = elim (cases_lt i (length b)) [
  | inl less ↦ (let here = All-get_or (λ x. x < 2 ^ 8) b i 0 less all in omega (arith, here))
  | inr most ↦ (let e = get_or_past b i 0 most in omega (arith, e))
]

module _ (exact : PagesAreExact) (b : List ℕ) (are : AreBytes b) (said meta : Meta) (same : IsSameLayout said meta) (touched : ℕ → Option Page) (t : Replayed) (meta_is : meta ≡ t.meta)
    (touched_is : (id : ℕ) → touched id ≡ t.page id) where
  abbrev page : ℕ → Option Page
  page = page_there b said touched

  abbrev told : List (Option Page)
  told = pages_from page 1 said.pages

  high_is : meta.high ≡ t.meta.high
  high_is = ap (λ (m : Meta). m.high) meta_is

  -- what is read in a place
  spelled_at : (id : ℕ) (p : Page) → page_of_bytes (place_bytes said id b) ≡ Some p → SpellsPage (place_bytes said id b) p
  spelled_at id p e = (exact (place_bytes said id b) p (place_is_bytes said id b are)).0 e

  none_at : (id : ℕ) (o : Option Page) → page_of_bytes (place_bytes said id b) ≡ o → ((p : Page) → SpellsPage (place_bytes said id b) p → ⊥) → o ≡ None
  none_at id None e none = refl
  none_at id (Some p) e none = absurd (none p (spelled_at id p e))

  -- a page that is there is one of the file
  is_in : (id : ℕ) (p : Page) → page id ≡ Some p → IsPageIn b said id (t.page id) p
  is_in id p there = subst (λ (o : Option Page). IsPageIn b said id o p) (touched_is id) (by (touched id) there)
    where
      by : (o : Option Page) → touched_or o (page_of_bytes (place_bytes said id b)) ≡ Some p → IsPageIn b said id o p
      by None there = spelled_at id p there
      by (Some q) there = let is : Some q ≡ Some p = there in cc (is)

  -- a hole is a page that is lacked, and one that is lacked is a hole
  hole_lacks : (id : ℕ) → IsHole meta told id → LacksPage b said t id
  hole_lacks id (some, most, (inl beyond)) = let pages = same.pages in (some, omega (arith, most, high_is), inl (omega (arith, beyond, pages)))
  hole_lacks id (some, most, (inr none)) = (some, omega (arith, most, high_is), inr (by (touched id) refl (told_is page said.pages id None none).2))
    where
      by : (o : Option Page) → touched id ≡ o → touched_or o (page_of_bytes (place_bytes said id b)) ≡ None → (t.page id ≡ None) × ((p : Page) → SpellsPage (place_bytes said id b) p → ⊥)
      by (Some q) is e = absurd (let never : Some q ≡ None = e in cc)
      by None is e = (sym (touched_is id) ∙ is, λ p spells. let read = (exact (place_bytes said id b) p (place_is_bytes said id b are)).1 spells in let never : None ≡ Some p = sym e ∙ read in cc (never))

  lacks_hole : (id : ℕ) → LacksPage b said t id → IsHole meta told id
  lacks_hole id (some, most, (inl beyond)) = let pages = same.pages in (some, omega (arith, most, high_is), inl (omega (arith, beyond, pages)))
  lacks_hole id (some, most, (inr (none, spelled))) = (
    some,
    omega (arith, most, high_is),
    elim (cases_lt said.pages id) [
      | inl beyond ↦ (let pages = same.pages in inl (omega (arith, beyond, pages)))
      | inr inside ↦ inr (told_at page said.pages id some inside ∙ ap (λ (o : Option Page). Some o)
          (ap (λ (o : Option Page). touched_or o (page_of_bytes (place_bytes said id b))) (touched_is id ∙ none) ∙ none_at id (page_of_bytes (place_bytes said id b)) refl spelled))
    ],
  )

  -- the file that is told, where no page is lacked
  module _ (some : 1 ≤ meta.pages) (whole : IsWholeFile meta told) where
    few : meta.high ≤ meta.pages
    few = elim (cases_lt meta.pages meta.high) [
      | inl beyond ↦ absurd (whole meta.high (omega (arith, some, beyond), omega arith, inl beyond))
      | inr most ↦ most
    ]

    abbrev front : List (Option Page)
    front = take meta.high told

    no_hole : (k : ℕ) → slice_get front k ≡ Some None → ⊥
    no_hole k e =
        let there = front_at meta.high told k None e in
        whole (suc k) (omega arith, (let less = there.0 in omega (arith, less)), inr there.1)

    shows_told : Shows b said t (file_of meta told)
    shows_told =
        let each = shown_each front no_hole in
        record {
          meta = meta_is;
          count = each.0 ∙ (let long = told_long page 1 said.pages in let cut = length-take meta.high told in let pages = same.pages in let most = few in omega (arith, cut, long, pages, most, high_is));
          each = λ id p is. at id p is each.1;
        }
      where
        at : (id : ℕ) (p : Page) → page_of (file_of meta told) id ≡ Some p → ((k : ℕ) (q : Page) → slice_get (shown_pages front) k ≡ Some q → slice_get front k ≡ Some (Some q)) → IsPageIn b said id (t.page id) p
        at zero p is each = absurd (let range = page_in_range (shown_pages front) zero p is in omega (arith, range.0))
        at (suc k) p is each =
            let here = each k p (sym (page_at-suc (shown_pages front) k) ∙ is) in
            is_in (suc k) p (told_is page said.pages (suc k) (Some p) (front_at meta.high told k (Some p) here).1).2

-- What the audit answers where the superblock and the log were read.
module _ (exact : PagesAreExact) (b : List ℕ) (are : AreBytes b) (read : LogRead) (is : IsReadIn b read) (layout : IsLayout read.touched.meta) (same : IsSameLayout read.said read.touched.meta) where
  abbrev says : Meta
  says = read.touched.meta

  abbrev log_has : ℕ → Option Page
  log_has = touched_pages read.touched

  abbrev all : List (Option Page)
  all = pages_from (page_there b read.said log_has) 1 read.said.pages

  abbrev last : Replayed
  last = replay (untouched read.said) is.log.groups

  shows_all : IsWholeFile says all → Shows b read.said last (file_of says all)
  shows_all whole = shows_told exact b are read.said says same log_has last is.log.meta_is is.log.pages_are layout.some_pages whole

  pub found_sound : (count : ℕ) → IsSoundWith says all count → IsFoundIn b read.turn says log_has count
  found_sound count sound = record {
    said = read.said;
    file = file_of says all;
    opens = record {
      layout = same;
      meta_is = refl;
      payloads = is.log.payloads;
      groups = is.log.groups;
      by = record {
        newest = is.has.newest;
        fits = is.has.fits;
        log = is.log.log;
        shows = shows_all sound.0;
      };
      touched_is = λ id. sym (is.log.pages_are id);
    };
    sound = sound.1;
    counted = sound.2;
  }

  pub names_unsound : (page rule : ℕ) → Names says all page rule → RefusesBytes (faults.Unsound page rule) b
  names_unsound page rule names = (read.turn, read.said, is.has, is.log.groups, (is.log.payloads, is.log.log), by names)
    where
      lacks : (id : ℕ) → IsHole says all id → LacksPage b read.said last id
      lacks id hole = hole_lacks exact b are read.said says same log_has last is.log.meta_is is.log.pages_are id hole

      hole : (id : ℕ) → LacksPage b read.said last id → IsHole says all id
      hole id lacked = lacks_hole exact b are read.said says same log_has last is.log.meta_is is.log.pages_are id lacked

      by : Names says all page rule → IsUnsound b read.said is.log.groups page rule
      by (inl (zero_rule, least)) = inl (zero_rule, record { here = lacks page least.here; least = λ id lacked. least.least id (hole id lacked) })
      by (inr (whole, named)) = inr (λ id lacked. whole id (hole id lacked), file_of says all, shows_all whole, named)

-- what an audit says of the file that was found, where the disk tells, and why it stops
module _ (exact : PagesAreExact) (o : Option (List ℕ)) (are : (b : List ℕ) → o ≡ Some b → AreBytes b) (read : LogRead) (layout : IsLayout read.touched.meta) (same : IsSameLayout read.said read.touched.meta) where
  pub found_ok : (count : ℕ) → IfSome (told_pages o read.said (touched_pages read.touched)) (λ told. IsSoundWith read.touched.meta told count) → (pages : BTreeMap ℕ Page) → pages ≡ read.touched.pages
      → IfSome o (λ b. IsReadIn b read → IsFoundIn b read.turn read.touched.meta (get nat_cmp pages) count)
  found_ok count sound pages is = by o are sound
    where
      by : (o : Option (List ℕ)) → ((b : List ℕ) → o ≡ Some b → AreBytes b) → IfSome (told_pages o read.said (touched_pages read.touched)) (λ told. IsSoundWith read.touched.meta told count)
          → IfSome o (λ b. IsReadIn b read → IsFoundIn b read.turn read.touched.meta (get nat_cmp pages) count)
      by None are sound = tt
      by (Some b) are sound = λ there.
          subst (λ (p : BTreeMap ℕ Page). IsFoundIn b read.turn read.touched.meta (get nat_cmp p) count) (sym is) (found_sound exact b (are b refl) read there layout same count sound)

  pub named_err : (stop : AuditStop) → OnBroken (λ page rule. IfSome (told_pages o read.said (touched_pages read.touched)) (λ told. Names read.touched.meta told page rule)) stop
      → (fault : OpenFault) → fault ≡ audit_fault stop → IfSome o (λ b. IsReadIn b read → RefusesBytes fault b)
  named_err stop names fault is = subst (λ (f : OpenFault). IfSome o (λ b. IsReadIn b read → RefusesBytes f b)) (sym is) (by o are stop names)
    where
      by : (o : Option (List ℕ)) → ((b : List ℕ) → o ≡ Some b → AreBytes b) → (stop : AuditStop)
          → OnBroken (λ page rule. IfSome (told_pages o read.said (touched_pages read.touched)) (λ told. Names read.touched.meta told page rule)) stop
          → IfSome o (λ b. IsReadIn b read → RefusesBytes (audit_fault stop) b)
      by None are stop names = tt
      by (Some b) are (stops.Broken page rule) names = λ there. names_unsound exact b (are b refl) read there layout same page rule names
      by (Some b) are stops.Failed names = λ there. tt
      by (Some b) are stops.NoMemory names = λ there. tt

-- the audit fails where the source does
pub failed_is : (stop : AuditStop) → audit_fault stop ≡ faults.DiskFault → stop ≡ stops.Failed
failed_is (stops.Broken page rule) same = absurd (let never : ⊥ = cc same in never)
failed_is stops.Failed same = refl
failed_is stops.NoMemory same = absurd (let never : ⊥ = cc same in never)

-- what asking for pages did to the disk
pub asked_only : {F : Type 0} (failed : Type 0) (old new : DiskModel) → (failed → F) → (F → failed) → OnlyReads old new → Counts failed old.read_faults new.read_faults → ReadsOnly F old new
asked_only failed old new to from reads counts = record { stays = reads.stays; reads = Counts-as old.read_faults new.read_faults to from counts; writes = reads.writes }

-- a refusal of what was read, behind the reads
pub refused_there : {A D : Type 0} (r : Result A (OpenFault × D)) (old mid : DiskModel) (read : LogRead) → Stays old mid → IfSome old.told (λ b. IsReadIn b read)
    → IfErr r (λ e. IfSome mid.told (λ b. IsReadIn b read → RefusesBytes e.0 b)) → IfErr r (λ e. IsShut mid.size e.0) → IfErr r (λ e. IsRefusal old e.0)
refused_there (Ok v) old mid read stays here why shut = tt
refused_there (Err e) old mid read stays here why shut = record {
  why = if_value old.told (RefusesBytes e.0) (λ b told.
      at_value mid.told (λ b. IsReadIn b read → RefusesBytes e.0 b) b (stays.told ∙ told) why (at_value old.told (λ b. IsReadIn b read) b told here));
  shut = let Q : ℕ → Type 0 = λ n. IsShut n e.0 in subst Q stays.size shut;
}
