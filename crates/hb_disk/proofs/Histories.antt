-- What a record of calls keeps of the disk model.
use Rattle.std.proofs.Common.{◌≡◌, ◌⊎◌, inl, inr, ⊎_elim, ℕ, ◌+◌, ◌-◌, ◌^◌, ◌<◌, ◌≤◌, Bool, false, List, [], ◌∷◌, length, take, drop, get_or, reverse, Option, Some, Result, Ok, Err, IfErr, OnOk, OnErr, IsErr, MatchOption, true≢false, refl, sym, ap, ◌∙◌, subst, arith, length-take, length-drop}
use Rattle.std.specs.List.{All}
use Rattle.std.proofs.lemmas.List.{reverse-append, get_or-take, get_or-drop, ext_get_or}
use Rattle.std.proofs.lemmas.List.Elements.{All-take, All-drop}
use Rattle.hb_outside.specs.Memory.{next_count}
use Rattle.hb_outside.specs.Calls.{Counts}
use Rattle.hb_disk.specs.Model.{DiskModel, overwritten, last_value, Torn, Elapses}
use Rattle.hb_disk.specs.Calls.{Ticks, Writes, Syncs}
use Rattle.hb_disk.proofs.Facts.TornLaws.{IsOutside, cases_range, Torn-from, Torn-same, Torn-itself}
use Rattle.hb_disk.proofs.Facts.OverwrittenLaws.{length-overwritten, overwritten-inside, overwritten-outside, All-overwritten}
use Rattle.hb_disk.specs.Events.{IsOpen, IsImage, IsImageSince, undone, range_of, disk_after}
use Rattle.hb_disk.specs.NotedCalls.{Notes, IsOver, Refuses, Passes}
use Rattle.hb_disk.specs.declared.event.Change.{Change}
use Rattle.hb_disk.specs.declared.event.Change.TheVariants.{Tried, Synced}
use Rattle.hb_disk.specs.declared.event.Event.{Event}
use Rattle.hb_disk.specs.declared.event.Refused.{Refused}
use Rattle.hb_disk.specs.declared.history.History.{History}
use Rattle.hb_disk.specs.declared.event.Refused.TheVariants.{Listed, Over, NoMemory}

pub Notes-weaker : (P Q : Change → Type 0) (clock call : ℕ) (old new : List Event) → ((d : Change) → P d → Q d) → Notes P clock call old new → Notes Q clock call old new
Notes-weaker P Q clock call old new weaker noted = record {
  event = noted.event;
  added = noted.added;
  at_clock = noted.at_clock;
  at_call = noted.at_call;
  change = weaker noted.event.change noted.change;
  time_left = noted.time_left;
}

-- a refused call that wasn't a listed one, said of any call
refused_as : (OnRecord Same : Type 0) (listed : Bool) (clock : ℕ) (e : Refused) → Refuses ⊥ Same false clock e → Refuses OnRecord Same listed clock e
refused_as OnRecord Same listed clock Listed why = absurd why.2
refused_as OnRecord Same listed clock Over why = why
refused_as OnRecord Same listed clock NoMemory why = why

pub unnoted : {T : Type 0} (r : Result T Refused) (Same : Type 0) (clock : ℕ) → IfErr r (Refuses ⊥ Same false clock) → OnErr r Same
unnoted (Ok v) Same clock why = tt
unnoted (Err Listed) Same clock why = absurd why.2
unnoted (Err Over) Same clock why = why.1
unnoted (Err NoMemory) Same clock why = why.1

-- a call that wasn't listed, whose change is noted
pub Passes-noted : (P Q : Change → Type 0) (OnRecord : Type 0) (bytes : List ℕ) (call : ℕ) (listed : Bool) (r : Result (Unit {0}) Refused) (old new : History) → ((d : Change) → P d → Q d)
    → listed ≡ false → Passes P ⊥ bytes call false r old new → Passes Q OnRecord bytes call listed r old new
Passes-noted P Q OnRecord bytes call listed (Ok v) old new weaker not passes = record {
  noted = Notes-weaker P Q old.clock call old.events.items new.events.items weaker passes.noted;
  made = passes.made;
  same = tt;
  why = tt;
  fails = λ l. absurd (true≢false (sym l ∙ not));
  clock = passes.clock;
}
Passes-noted P Q OnRecord bytes call listed (Err e) old new weaker not passes = record {
  noted = tt;
  made = tt;
  same = passes.same;
  why = refused_as OnRecord (new.events.items ≡ old.events.items) listed old.clock e passes.why;
  fails = λ l. refl;
  clock = passes.clock;
}

-- bytes are put after a call that is done
pub Passes-put : (P : Change → Type 0) (Before After : Type 0) (bytes now : List ℕ) (call : ℕ) (listed : Bool) (v : Unit {0}) (old mid new : History) → Passes P Before bytes call listed (Ok v) old mid
    → new.events ≡ mid.events → new.clock ≡ mid.clock → new.bytes.items ≡ now → Passes P After now call listed (Ok v) old new
Passes-put P Before After bytes now call listed v old mid new passes events clock put = record {
  noted = subst (λ es. Notes P old.clock call old.events.items es) (sym (ap (λ v. v.items) events)) passes.noted;
  made = put;
  same = tt;
  why = tt;
  fails = passes.fails;
  clock = clock ∙ passes.clock;
}

-- with the newest first the new event is the first
pub newest : (P : Change → Type 0) (clock call : ℕ) (old new : List Event) → (noted : Notes P clock call old new) → reverse new ≡ noted.event ∷ reverse old
newest P clock call old new noted = ap reverse noted.added ∙ reverse-append old (noted.event ∷ [])

-- what stands in a range, place by place
read_at : (bytes : List ℕ) (at n i : ℕ) → at ≤ i → i < at + n → get_or (take n (drop at bytes)) (i - at) 0 ≡ get_or bytes i 0
read_at bytes at n i low high =
    let e : at + (i - at) ≡ i = omega (arith, low) in
    get_or-take n (drop at bytes) (i - at) 0 (omega (arith, low, high)) ∙ get_or-drop at bytes (i - at) 0 ∙ ap (λ (j : ℕ). get_or bytes j 0) e

range_long : (bytes : List ℕ) (at n : ℕ) → at + n ≤ length bytes → length (take n (drop at bytes)) ≡ n
range_long bytes at n fits = omega (arith, length-take n (drop at bytes), length-drop at bytes, fits)

-- putting back what stood in a range undoes what was put there
pub put_back : (bytes : List ℕ) (at : ℕ) (piece before : List ℕ) → at + length piece ≤ length bytes → before ≡ take (length piece) (drop at bytes)
    → overwritten (overwritten bytes at piece) at before ≡ bytes
put_back bytes at piece before fits is =
    let now = overwritten bytes at piece in
    let now_long : length now ≡ length bytes = length-overwritten bytes at piece fits in
    let long : length before ≡ length piece = ap length is ∙ range_long bytes at (length piece) fits in
    let fits_back : at + length before ≤ length now = omega (arith, long, now_long, fits) in
    ext_get_or 0 (overwritten now at before) bytes (length-overwritten now at before fits_back ∙ now_long) (λ i h.
    elim (cases_range at (length before) i) [
      | inl within ↦
          let high : i < at + length piece = omega (arith, within.1, long) in
          overwritten-inside now at before fits_back i within.0 within.1
          ∙ ap (λ (l : List ℕ). get_or l (i - at) 0) is ∙ read_at bytes at (length piece) i within.0 high
      | inr outside ↦
          overwritten-outside now at before fits_back i outside
          ∙ overwritten-outside bytes at piece fits i (subst (λ n. IsOutside at n i) long outside)
    ])

module _ (bytes now : List ℕ) (es : List Event) (e : Event) (at n : ℕ) (ranges : range_of e.change ≡ Some (at, n)) (fits : at + n ≤ length bytes)
    (fit : All (λ x. x < 2 ^ 8) bytes) (long : length now ≡ length bytes) (same : (i : ℕ) → IsOutside at n i → get_or now i 0 ≡ get_or bytes i 0) where
  -- a place outside the range is open only if it was
  still_shut : (i : ℕ) → IsOutside at n i → (IsOpen es i → ⊥) → IsOpen (e ∷ es) i → ⊥
  still_shut i outside shut is_open =
      let Q : Option (ℕ × ℕ) → Type 0 = λ o. MatchOption o ⊥ (λ range. ((range.0 ≤ i) × (i < range.0 + range.1)) ⊎ IsOpen es i) in
      ⊎_elim (λ within. not_both at n i within outside) shut (subst Q ranges is_open)
    where
      not_both : (at n i : ℕ) → (at ≤ i) × (i < at + n) → IsOutside at n i → ⊥
      not_both at n i within (inl front) = omega (arith, within.0, front)
      not_both at n i within (inr behind) = omega (arith, within.1, behind)

  -- an image of after the event is one of before it, torn in the range
  pub image_torn : (c : List ℕ) → IsImage now (e ∷ es) c → (x : List ℕ) × IsImage bytes es x × Torn at n x c
  image_torn c image =
      let stood = take n (drop at bytes) in
      let stood_long : length stood ≡ n = range_long bytes at n fits in
      let x = overwritten c at stood in
      let c_long : length c ≡ length bytes = image.long ∙ long in
      let fits_c : at + length stood ≤ length c = omega (arith, stood_long, c_long, fits) in
      let x_long : length x ≡ length c = length-overwritten c at stood fits_c in (
        x,
        record {
          long = x_long ∙ c_long;
          fit = All-overwritten c at stood fits_c image.fit (All-take (λ x. x < 2 ^ 8) n (drop at bytes) (All-drop (λ x. x < 2 ^ 8) at bytes fit));
          kept = λ i shut. elim (cases_range at (length stood) i) [
            | inl within ↦ overwritten-inside c at stood fits_c i within.0 within.1 ∙ read_at bytes at n i within.0 (omega (arith, within.1, stood_long))
            | inr outside ↦
                let out = subst (λ k. IsOutside at k i) stood_long outside in
                overwritten-outside c at stood fits_c i outside ∙ image.kept i (still_shut i out shut) ∙ same i out
          ];
        },
        Torn-from at n x c (sym x_long) image.fit (λ i h outside. sym (overwritten-outside c at stood fits_c i (subst (λ k. IsOutside at k i) (sym stood_long) outside))),
      )

  -- and an image of before it, torn in the range, is one of after it
  pub torn_image : (b c : List ℕ) → IsImage bytes es b → Torn at n b c → IsImage now (e ∷ es) c
  torn_image b c image torn = record {
    long = torn.as_long ∙ image.long ∙ sym long;
    fit = torn.bytes;
    kept = λ i shut. elim (cases_range at n i) [
      | inl within ↦ absurd (shut (opens i (inl within)))
      | inr outside ↦ Torn-same at n b c torn i outside ∙ image.kept i (λ is_open. shut (opens i (inr is_open))) ∙ sym (same i outside)
    ];
  }
    where
      opens : (i : ℕ) → ((at ≤ i) × (i < at + n)) ⊎ IsOpen es i → IsOpen (e ∷ es) i
      opens i here =
          let Q : Option (ℕ × ℕ) → Type 0 = λ o. MatchOption o ⊥ (λ range. ((range.0 ≤ i) × (i < range.0 + range.1)) ⊎ IsOpen es i) in
          subst Q (sym ranges) here

-- a disk after one event more
module _ (bytes now : List ℕ) (es es_now : List Event) (e : Event) (first : es_now ≡ e ∷ es) (undoes : undone e.change now ≡ bytes)
    (clock next f g h k : ℕ) (at_clock : e.clock ≡ clock) where
  pub elapses_noted : Elapses (disk_after bytes es clock f g) (disk_after now es_now next h k)
  elapses_noted = record {
    nothing_else = λ t c le left.
        let split : IsImageSince t now (e ∷ es) c = subst (λ (l : List Event). IsImageSince t now l c) first left in
        ⊎_elim (λ image. inr (subst (λ (l : List Event). IsImage now l c) (sym first) image))
        (λ past. inl (subst (λ (l : List ℕ). IsImageSince t l es c) undoes past.1)) split;
    keeps = λ t c le left. subst (λ (l : List Event). IsImageSince t now l c) (sym first)
        (inr (omega (arith, le, at_clock), subst (λ (l : List ℕ). IsImageSince t l es c) (sym undoes) left));
  }

-- a disk after a call that left nothing on record
pub elapses_same : (bytes : List ℕ) (es : List Event) (clock next f g h k : ℕ) → Elapses (disk_after bytes es clock f g) (disk_after bytes es next h k)
elapses_same bytes es clock next f g h k = record { nothing_else = λ t c le left. inl left; keeps = λ t c le left. left }

pub next_clock : (clock : ℕ) → clock < last_value → next_count clock ≡ clock + 1
next_clock clock before = omega arith

-- The three kinds of ends of a call. `reads` is any count of reads that failed, and `faults` and `now_faults` are any of the other calls.
module _ (bytes : List ℕ) (es : List Event) (clock : ℕ) (fit : All (λ x. x < 2 ^ 8) bytes) (clock_fits : clock ≤ last_value) (reads faults now_faults : ℕ) where
  -- the disk before
  abbrev was : DiskModel
  was = disk_after bytes es clock reads faults

  -- and after, by what stands on record then
  abbrev is_now : List ℕ → List Event → DiskModel
  is_now now es_now = disk_after now es_now (next_count clock) reads now_faults

  -- one that left nothing on record, and failed
  ticks_missed : {T E : Type 0} (err : E) → Ticks {T = T} (Err err) was (is_now bytes es)
  ticks_missed err = record {
    tick = λ tells before. next_clock clock before;
    later = omega arith;
    ended = λ tells at_end. (
      refl,
      record {
        told = refl;
        size = refl;
        clock = omega arith;
        image = λ c image. image;
        image_kept = λ c image. image;
        since = λ t c left. left;
        since_kept = λ t c left. left;
      },
    );
    time = elapses_same bytes es clock (next_count clock) reads faults reads now_faults;
    size = refl;
  }

  pub writes_missed : {T E : Type 0} (err : E) (at : ℕ) (piece : List ℕ) → Counts (IsErr {T = T} (Err err)) faults now_faults → Writes {T = T} at piece (Err err) was (is_now bytes es)
  writes_missed err at piece counts = record {
    written = tt;
    tried = (bytes, refl, Torn-itself at (length piece) bytes fit);
    silent = λ none. cc;
    crash = λ c image. (c, image, Torn-itself at (length piece) c image.fit);
    opened = tt;
    opened_or_not = inr (refl, λ c. (λ image. image, λ image. image));
    ticks = ticks_missed err;
    faults = record { writes = counts; reads = refl };
  }

  pub syncs_missed : {T E : Type 0} (err : E) → Counts (IsErr {T = T} (Err err)) faults now_faults → Syncs {T = T} (Err err) was (is_now bytes es)
  syncs_missed err counts = record {
    same = refl;
    durable = tt;
    crash = λ c image. image;
    left_open = λ c image. image;
    ticks = ticks_missed err;
    faults = record { writes = counts; reads = refl };
  }

  -- one that left an event on record
  ticks_noted : {T E : Type 0} (r : Result T E) (now : List ℕ) (es_now : List Event) (e : Event) → es_now ≡ e ∷ es → undone e.change now ≡ bytes → e.clock ≡ clock → clock < last_value
      → length now ≡ length bytes → Ticks r was (is_now now es_now)
  ticks_noted r now es_now e first undoes at_clock before long = record {
    tick = λ tells not_last. next_clock clock not_last;
    later = omega arith;
    ended = λ tells at_end. absurd (omega (arith, at_end, before));
    time = elapses_noted bytes now es es_now e first undoes clock (next_count clock) reads faults reads now_faults at_clock;
    size = long;
  }

  -- a write that was done
  pub writes_done : {T E : Type 0} (v : T) (at : ℕ) (piece : List ℕ) (es_now : List Event) (e : Event) → es_now ≡ e ∷ es → IsOver at (length piece) bytes e.change → e.clock ≡ clock → clock < last_value
      → at + length piece ≤ length bytes → Counts (IsErr {E = E} (Ok v)) faults now_faults → Writes {E = E} at piece (Ok v) was (is_now (overwritten bytes at piece) es_now)
  writes_done {T = T} {E = E} v at piece es_now e first over at_clock before fits counts = record {
    written = refl;
    tried = tt;
    silent = λ none. cc;
    crash = λ c image.
        let long : length over.0.items ≡ length piece = ap length over.2 ∙ range_long bytes at (length piece) fits in
        let ranges : range_of e.change ≡ Some (at, length piece) = ap range_of over.1 ∙ ap (λ (n : ℕ). Some (at, n)) long in
        image_torn bytes (overwritten bytes at piece) es e at (length piece) ranges fits fit (length-overwritten bytes at piece fits) (overwritten-outside bytes at piece fits)
        c (subst (λ (l : List Event). IsImage (overwritten bytes at piece) l c) first image);
    opened = λ b c image torn.
        let long : length over.0.items ≡ length piece = ap length over.2 ∙ range_long bytes at (length piece) fits in
        let ranges : range_of e.change ≡ Some (at, length piece) = ap range_of over.1 ∙ ap (λ (n : ℕ). Some (at, n)) long in
        subst (λ (l : List Event). IsImage (overwritten bytes at piece) l c) (sym first)
        (torn_image bytes (overwritten bytes at piece) es e at (length piece) ranges fits fit (length-overwritten bytes at piece fits) (overwritten-outside bytes at piece fits) b c image torn);
    opened_or_not = tt;
    ticks =
        let undoes : undone e.change (overwritten bytes at piece) ≡ bytes = ap (λ d. undone d (overwritten bytes at piece)) over.1 ∙ put_back bytes at piece over.0.items fits over.2 in
        let r : Result T E = Ok v in ticks_noted r (overwritten bytes at piece) es_now e first undoes at_clock before (length-overwritten bytes at piece fits);
    faults = record { writes = counts; reads = refl };
  }

  -- a write that was tried
  pub writes_tried : {T E : Type 0} (err : E) (at : ℕ) (piece : List ℕ) (es_now : List Event) (e : Event) → es_now ≡ e ∷ es → e.change ≡ Tried at (length piece) → e.clock ≡ clock → clock < last_value
      → at + length piece ≤ length bytes → Counts (IsErr {T = T} (Err err)) faults now_faults → Writes {T = T} at piece (Err err) was (is_now bytes es_now)
  writes_tried {T = T} {E = E} err at piece es_now e first is at_clock before fits counts = record {
    written = tt;
    tried = (bytes, refl, Torn-itself at (length piece) bytes fit);
    silent = λ none. cc;
    crash = λ c image.
        image_torn bytes bytes es e at (length piece) (ap range_of is) fits fit refl (λ i outside. refl) c (subst (λ (l : List Event). IsImage bytes l c) first image);
    opened = tt;
    opened_or_not = inl (λ b c image torn. subst (λ (l : List Event). IsImage bytes l c) (sym first)
        (torn_image bytes bytes es e at (length piece) (ap range_of is) fits fit refl (λ i outside. refl) b c image torn));
    ticks = let r : Result T E = Err err in ticks_noted r bytes es_now e first (ap (λ d. undone d bytes) is) at_clock before refl;
    faults = record { writes = counts; reads = refl };
  }

  -- a sync that was done
  pub syncs_done : {T E : Type 0} (v : T) (es_now : List Event) (e : Event) → es_now ≡ e ∷ es → e.change ≡ Synced → e.clock ≡ clock → clock < last_value
      → Counts (IsErr {E = E} (Ok v)) faults now_faults → Syncs {E = E} (Ok v) was (is_now bytes es_now)
  syncs_done {T = T} {E = E} v es_now e first is at_clock before counts = record {
    same = refl;
    durable = λ c image. all_same c (subst (λ (l : List Event). IsImage bytes l c) first image);
    crash = λ c image.
        let here = all_same c (subst (λ (l : List Event). IsImage bytes l c) first image) in
        subst (λ (l : List ℕ). IsImage bytes es l) (sym here) (record { long = refl; fit = fit; kept = λ i shut. refl });
    left_open = tt;
    ticks = let r : Result T E = Ok v in ticks_noted r bytes es_now e first (ap (λ d. undone d bytes) is) at_clock before refl;
    faults = record { writes = counts; reads = refl };
  }
    where
      all_same : (c : List ℕ) → IsImage bytes (e ∷ es) c → c ≡ bytes
      all_same c image = ext_get_or 0 c bytes image.long (λ i low. image.kept i (λ is_open.
          let Q : Option (ℕ × ℕ) → Type 0 = λ o. MatchOption o ⊥ (λ range. ((range.0 ≤ i) × (i < range.0 + range.1)) ⊎ IsOpen es i) in
          subst Q (ap range_of is) is_open))

-- what a refused call left is nothing, or a try
pub left_by : (OnRecord Same : Type 0) (listed : Bool) (clock : ℕ) (e : Refused) → Refuses OnRecord Same listed clock e → Same ⊎ OnRecord
left_by OnRecord Same listed clock Listed why = inr why.2
left_by OnRecord Same listed clock Over why = inl why.1
left_by OnRecord Same listed clock NoMemory why = inl why.1

carried : (Q : List ℕ → List Event → ℕ → Type 0) (bytes now : List ℕ) (events after : List Event) (clock next : ℕ) → now ≡ bytes → after ≡ events → next ≡ clock → Q bytes events clock → Q now after next
carried Q bytes now events after clock next same none ticked h =
    subst (λ t. Q now after t) (sym ticked) (subst (λ (es : List Event). Q now es clock) (sym none) (subst (λ (l : List ℕ). Q l events clock) (sym same) h))

-- the same, of the calls of a history
module _ (bytes : List ℕ) (events : List Event) (clock : ℕ) (fit : All (λ x. x < 2 ^ 8) bytes) (clock_fits : clock ≤ last_value) (call : ℕ)
    (now : List ℕ) (after : List Event) (next : ℕ) (ticked : next ≡ next_count clock) where
  pub sync_noted : {T E : Type 0} (r : Result T E) → OnOk r (now ≡ bytes) → OnErr r (now ≡ bytes) → OnOk r (Notes (λ d. d ≡ Synced) clock call events after) → OnErr r (after ≡ events)
      → (reads f g : ℕ) → Counts (IsErr r) f g → Syncs r (disk_after bytes (reverse events) clock reads f) (disk_after now (reverse after) next reads g)
  sync_noted {T = T} {E = E} (Ok v) same as_before done refused reads f g counts =
      let Q : List ℕ → List Event → ℕ → Type 0 = λ l es t. Syncs {T = T} {E = E} (Ok v) (disk_after bytes (reverse events) clock reads f) (disk_after l (reverse es) t reads g) in
      carried Q bytes now after after (next_count clock) next same refl ticked
      (syncs_done bytes (reverse events) clock fit clock_fits reads f g v (reverse after) done.event (newest (λ d. d ≡ Synced) clock call events after done) done.change done.at_clock done.time_left counts)
  sync_noted {T = T} {E = E} (Err e) as_made same done refused reads f g counts =
      let Q : List ℕ → List Event → ℕ → Type 0 = λ l es t. Syncs {T = T} {E = E} (Err e) (disk_after bytes (reverse events) clock reads f) (disk_after l (reverse es) t reads g) in
      carried Q bytes now events after (next_count clock) next same refused ticked (syncs_missed bytes (reverse events) clock fit clock_fits reads f g e counts)

  pub write_refused : {T E : Type 0} (r : Result T E) (at : ℕ) (piece : List ℕ) → IsErr r → at + length piece ≤ length bytes → now ≡ bytes
      → (after ≡ events) ⊎ Notes (λ d. d ≡ Tried at (length piece)) clock call events after
      → (reads f g : ℕ) → Counts (IsErr r) f g → Writes at piece r (disk_after bytes (reverse events) clock reads f) (disk_after now (reverse after) next reads g)
  write_refused (Ok v) at piece failed fits same how reads f g counts = cc
  write_refused {T = T} {E = E} (Err e) at piece failed fits same (inl none) reads f g counts =
      let Q : List ℕ → List Event → ℕ → Type 0 = λ l es t. Writes {T = T} {E = E} at piece (Err e) (disk_after bytes (reverse events) clock reads f) (disk_after l (reverse es) t reads g) in
      carried Q bytes now events after (next_count clock) next same none ticked (writes_missed bytes (reverse events) clock fit clock_fits reads f g e at piece counts)
  write_refused {T = T} {E = E} (Err e) at piece failed fits same (inr tried) reads f g counts =
      let Q : List ℕ → List Event → ℕ → Type 0 = λ l es t. Writes {T = T} {E = E} at piece (Err e) (disk_after bytes (reverse events) clock reads f) (disk_after l (reverse es) t reads g) in
      carried Q bytes now after after (next_count clock) next same refl ticked (writes_tried bytes (reverse events) clock fit clock_fits reads f g e at piece (reverse after) tried.event
      (newest (λ d. d ≡ Tried at (length piece)) clock call events after tried) tried.change tried.at_clock tried.time_left fits counts)

  pub write_kept : {T E : Type 0} (v : T) (at : ℕ) (piece : List ℕ) → at + length piece ≤ length bytes → now ≡ overwritten bytes at piece
      → Notes (IsOver at (length piece) bytes) clock call events after
      → (reads f g : ℕ) → Counts (IsErr {E = E} (Ok v)) f g → Writes {E = E} at piece (Ok v) (disk_after bytes (reverse events) clock reads f) (disk_after now (reverse after) next reads g)
  write_kept {T = T} {E = E} v at piece fits same noted reads f g counts =
      let Q : List ℕ → List Event → ℕ → Type 0 = λ l es t. Writes {T = T} {E = E} at piece (Ok v) (disk_after bytes (reverse events) clock reads f) (disk_after l (reverse es) t reads g) in
      carried Q (overwritten bytes at piece) now after after (next_count clock) next same refl ticked (writes_done bytes (reverse events) clock fit clock_fits reads f g v at piece (reverse after) noted.event
      (newest (IsOver at (length piece) bytes) clock call events after noted) noted.change noted.at_clock noted.time_left fits counts)
