-- A file goes on to open while its next turn is made ready, and stands whole once it begins.
use Rattle.std.proofs.Common.{◌≡◌, ◌⊎◌, inl, inr, ℕ, zero, suc, ◌+◌, ◌*◌, ◌-◌, ◌%◌, ◌≤◌, List, [], ◌++◌, length, take, drop, replicate, Option, Some, None, IsSome, is_some, IfSome, Result, refl, sym, ap, ◌∙◌, subst, arith}
use Rattle.std.proofs.lemmas.List.{length-replicate}
use Rattle.hb_space.specs.declared.form.TheConstants.{PAGE}
use Rattle.hb_disk.specs.Model.{DiskModel, IsDisk, overwritten, Torn}
use Rattle.hb_disk.specs.Calls.{Ticks, Syncs, Leaves, Becomes, Apart}
use Rattle.hb_disk.proofs.Facts.RunLaws.{Leaves-start, Leaves-call, Leaves-then, Leaves-weaker}
use Rattle.hb_lemmas.proofs.Options.{at_value, of_value, has_value, some_value}
use Rattle.std.proofs.lemmas.Option.{same_Some}
use Rattle.hb_disk.proofs.Facts.SyncedLaws.{IsSynced-durable, told_elsewhere}
use Rattle.hb_disk.proofs.Facts.TornLaws.{Torn-elsewhere}
use Rattle.hb_disk.proofs.Facts.OverwrittenLaws.{overwritten-reads}
use Rattle.hb_frag.specs.declared.pages.Page.{Page}
use Rattle.hb_frag.specs.Grammar.{SpellsPage}
use Rattle.hb_wal.specs.Frames.{range}
use Rattle.hb_layout.specs.Offsets.{slot_offset, file_size, log_start, page_offset}
use Rattle.hb_super.specs.Superblocks.{IsNewest, next_turn}
use Rattle.hb_super.specs.Moments.{WriteLeaves, IsUncovered, HasNoBody, HidesNoOther}
use Rattle.hb_super.proofs.Facts.BodyLaws.{HasNoBody-other}
use Rattle.hb_super.proofs.Facts.Gates.{newest_same}
use Rattle.hb_layout.specs.declared.meta.Meta.{Meta}
use Rattle.hb_ops.specs.Files.{FileState, page_of}
use Rattle.hb_ops.proofs.Facts.FilePages.{page_in_range}
use Rattle.hb_store.specs.Replay.{untouched, replay}
use Rattle.hb_store.specs.Opening.{OpensBy, OpensTo, log_bytes, place_bytes}
use Rattle.hb_store.specs.Keeps.{IsFresh}
use Rattle.hb_store.specs.Turning.{StillOpens, IsPlaced, MayTurn, OpensByEither}
use Rattle.hb_store.proofs.Facts.ReplayLaws.{opens_elsewhere, opens_fresh}
use Rattle.hb_store.proofs.Facts.FreshLaws.{HidesNoOther-elsewhere, IsFresh-from, places_kept}
use Rattle.hb_store.proofs.Facts.PlaceWrites.{Tore, tore}
use Rattle.hb_disk.proofs.Facts.RewriteLaws.{Becomes-tells}

-- An image of now has what each image since an earlier moment has.
pub now_has : (old new : DiskModel) (P : List ℕ → Type 0) → IsDisk new → Leaves old new P → (c : List ℕ) → new.Image c → P c
now_has old new P is_new run c image = run.each c (is_new.counts_now old.clock c run.later image)

-- where the log areas of a turn and of the next one lie
pub record Areas (turn next : ℕ) (meta : Meta) : Type 0 where
  pub low : 8192 ≤ log_start turn meta
  pub high : log_start turn meta + meta.log ≤ 8192 + 2 * meta.log
  pub next_low : 8192 ≤ log_start next meta
  pub next_high : log_start next meta + meta.log ≤ 8192 + 2 * meta.log
  pub apart : Apart (log_start turn meta) meta.log (log_start next meta) meta.log
  pub place : slot_offset next + 41 ≤ 8192

areas_of : (turn next : ℕ) (meta : Meta) → ((turn % 2 ≡ 0) × (next % 2 ≡ 1)) ⊎ ((turn % 2 ≡ 1) × (next % 2 ≡ 0)) → Areas turn next meta
areas_of turn next meta (inl (one, two)) =
    let here : log_start turn meta ≡ 8192 = ap (λ (n : ℕ). 8192 + n * meta.log) one ∙ (let e : 8192 + 0 * meta.log ≡ 8192 = omega arith in e) in
    let there : log_start next meta ≡ 8192 + meta.log = ap (λ (n : ℕ). 8192 + n * meta.log) two ∙ (let e : 8192 + 1 * meta.log ≡ 8192 + meta.log = omega arith in e) in
    let place : slot_offset next ≡ 4096 = ap (λ (n : ℕ). 4096 * n) two in
    record { low = omega (arith, here); high = omega (arith, here); next_low = omega (arith, there); next_high = omega (arith, there); apart = inl (omega (arith, here, there)); place = omega (arith, place) }
areas_of turn next meta (inr (one, two)) =
    let here : log_start turn meta ≡ 8192 + meta.log = ap (λ (n : ℕ). 8192 + n * meta.log) one ∙ (let e : 8192 + 1 * meta.log ≡ 8192 + meta.log = omega arith in e) in
    let there : log_start next meta ≡ 8192 = ap (λ (n : ℕ). 8192 + n * meta.log) two ∙ (let e : 8192 + 0 * meta.log ≡ 8192 = omega arith in e) in
    let place : slot_offset next ≡ 0 = ap (λ (n : ℕ). 4096 * n) two in
    record { low = omega (arith, here); high = omega (arith, here); next_low = omega (arith, there); next_high = omega (arith, there); apart = inr (omega (arith, here, there)); place = omega (arith, place) }

pub parities : (turn : ℕ) → turn ≤ 3 → ((turn % 2 ≡ 0) × (next_turn turn % 2 ≡ 1)) ⊎ ((turn % 2 ≡ 1) × (next_turn turn % 2 ≡ 0))
parities zero le = inl (refl, refl)
parities (suc zero) le = inr (refl, refl)
parities (suc (suc zero)) le = inl (refl, refl)
parities (suc (suc (suc zero))) le = inr (refl, refl)
parities (suc (suc (suc (suc n)))) le = absurd (omega (arith, le))

pub areas : (turn next : ℕ) (meta : Meta) → turn ≤ 3 → next ≡ next_turn turn → Areas turn next meta
areas turn next meta small is =
    let N : ℕ → Type 0 = λ n. Areas turn n meta in
    subst N (sym is) (areas_of turn (next_turn turn) meta (parities turn small))

-- the body of a turn stands apart from the place of the next one
old_apart : (turn next : ℕ) → turn ≤ 3 → next ≡ next_turn turn → Apart (slot_offset turn + 1) 40 (slot_offset next) 41
old_apart turn next small is = elim (parities turn small) [
  | inl even ↦ inl (omega (arith, is, even.0, even.1))
  | inr odd ↦ inr (omega (arith, is, odd.0, odd.1))
]

pub still_to : (turn : ℕ) (said meta : Meta) (touched : ℕ → Option Page) (s : FileState) (c : List ℕ) → StillOpens turn said meta touched s c → OpensTo c s
still_to turn said meta touched s c opens = record { turn = turn; said = said; payloads = opens.payloads; groups = opens.groups; by = opens.by }

-- as many pages as the file says, and their numbers
count_of : (turn : ℕ) (said meta : Meta) (touched : ℕ → Option Page) (s : FileState) (b : List ℕ) → StillOpens turn said meta touched s b → length s.pages ≡ meta.high
count_of turn said meta touched s b opens = opens.by.shows.count ∙ ap (λ (m : Meta). m.high) (sym opens.by.shows.meta ∙ opens.meta_is)

up_to : (turn : ℕ) (said meta : Meta) (touched : ℕ → Option Page) (s : FileState) (b : List ℕ) → StillOpens turn said meta touched s b
    → (id : ℕ) (q : Page) → page_of s id ≡ Some q → id ≤ meta.high
up_to turn said meta touched s b opens id q is = let most = (page_in_range s.pages id q is).1 in let count = count_of turn said meta touched s b opens in omega (arith, most, count)

-- The file still opens, its pages stand in their places, the log area of the next turn reads as zeros, a crash leaves what
-- a read gives, and the place of the next turn hides no other body.
pub record IsZeroed (turn next : ℕ) (said meta : Meta) (touched : ℕ → Option Page) (s : FileState) (d : DiskModel) : Type 0 where
  pub placed : IsPlaced d turn said meta touched s
  pub alone : (b c : List ℕ) → d.told ≡ Some b → d.Image c → c ≡ b
  pub zeroed : (b : List ℕ) → d.told ≡ Some b → log_bytes next meta b ≡ replicate meta.log 0
  pub hides : (b : List ℕ) → d.told ≡ Some b → HidesNoOther b next meta

module _ (turn next : ℕ) (said meta : Meta) (small : turn ≤ 3) (is : next ≡ next_turn turn) (touched : ℕ → Option Page) (s : FileState) where
  abbrev lies : Areas turn next meta
  lies = areas turn next meta small is

  -- bytes that are torn elsewhere still open
  still_by : (b c : List ℕ) (from m : ℕ) → StillOpens turn said meta touched s b → Torn from m b c → IsNewest c turn said → Apart (log_start turn meta) meta.log from m
      → ((id : ℕ) → 1 ≤ id → touched id ≡ None → Apart (page_offset meta id) PAGE from m) → StillOpens turn said meta touched s c
  still_by b c from m opens torn newest apart off = record {
    layout = opens.layout;
    meta_is = opens.meta_is;
    payloads = opens.payloads;
    groups = opens.groups;
    by = opens_elsewhere b c turn said opens.payloads opens.groups s opens.by newest torn.as_long (Torn-elsewhere from m (log_start turn said) said.log b c here torn) places;
    touched_is = opens.touched_is;
  }
    where
      here : Apart (log_start turn said) said.log from m
      here = let L : ℕ → Type 0 = λ n. Apart (8192 + (turn % 2) * n) n from m in subst L opens.layout.log apart

      off_said : (id : ℕ) → 1 ≤ id → touched id ≡ None → Apart (page_offset said id) PAGE from m
      off_said id some none = let L : ℕ → Type 0 = λ n. Apart (8192 + 2 * n + 4096 * (id - 1)) 4096 from m in subst L opens.layout.log (off id some none)

      places : (id : ℕ) (q : Page) → page_of s id ≡ Some q → (replay (untouched said) opens.groups).page id ≡ None → place_bytes said id c ≡ place_bytes said id b
      places id q is none =
          Torn-elsewhere from m (page_offset said id) PAGE b c (off_said id (page_in_range s.pages id q is).0 (sym (opens.touched_is id) ∙ none)) torn

  pub still_torn : (b c : List ℕ) (from m : ℕ) → 8192 ≤ from → StillOpens turn said meta touched s b → Torn from m b c → Apart (log_start turn meta) meta.log from m
      → ((id : ℕ) → 1 ≤ id → touched id ≡ None → Apart (page_offset meta id) PAGE from m) → StillOpens turn said meta touched s c
  still_torn b c from m low opens torn =
      still_by b c from m opens torn (newest_same b c (places_kept from m b c low torn) turn said opens.by.newest)

  -- with the log area of the next turn torn
  pub still_area : (b c : List ℕ) → StillOpens turn said meta touched s b → Torn (log_start next meta) meta.log b c → StillOpens turn said meta touched s c
  still_area b c opens torn =
      still_torn b c (log_start next meta) meta.log lies.next_low opens torn lies.apart (λ id some none. inr (let h = lies.next_high in omega (arith, h)))

  -- with the place of the next turn torn, and the old superblock the newest
  pub still_place : (b c : List ℕ) (from m : ℕ) → from + m ≤ 8192 → StillOpens turn said meta touched s b → Torn from m b c → IsNewest c turn said → StillOpens turn said meta touched s c
  still_place b c from m high opens torn newest =
      still_by b c from m opens torn newest (inr (let h = lies.low in omega (arith, h, high))) (λ id some none. inr (omega (arith, high)))

  -- Bytes with the place of the next turn torn open, by the old superblock or by the new one.
  module _ (d : DiskModel) (ready : IsZeroed turn next said meta touched s d) (b : List ℕ) (told : d.told ≡ Some b) (long : file_size meta ≤ length b) (opens : StillOpens turn said meta touched s b) where
    there_after : (c : List ℕ) → Torn (slot_offset next) 41 b c → (id : ℕ) (q : Page) → page_of s id ≡ Some q → SpellsPage (place_bytes meta id c) q
    there_after c torn id q is =
        let S : List ℕ → Type 0 = λ l. SpellsPage l q in
        let h = lies.place in
        subst S (sym (Torn-elsewhere (slot_offset next) 41 (page_offset meta id) PAGE b c (inr (omega (arith, h))) torn))
        (ready.placed.there id q (up_to turn said meta touched s b opens id q is) is b told)

    zeros_after : (c : List ℕ) → Torn (slot_offset next) 41 b c → log_bytes next meta c ≡ replicate meta.log 0
    zeros_after c torn =
        let h = lies.place in
        let l = lies.next_low in
        Torn-elsewhere (slot_offset next) 41 (log_start next meta) meta.log b c (inr (omega (arith, h, l))) torn ∙ ready.zeroed b told

    new_opens : (c : List ℕ) → Torn (slot_offset next) 41 b c → IsNewest c next meta → OpensByEither turn said meta touched s c
    new_opens c torn newest =
        let N : ℕ → Type 0 = λ n. OpensBy c n meta [] [] s in
        inr (subst N is (opens_fresh c next meta s newest (omega (arith, torn.as_long, long)) (zeros_after c torn) opens.meta_is (count_of turn said meta touched s b opens) (there_after c torn)))

    uncovered : (c : List ℕ) → IsUncovered b next c → IsNewest c next meta
    uncovered c un =
        let same : un.said ≡ meta = ready.hides b told un.closed un.said un.newest.there.legal un.body in
        let M : Meta → Type 0 = λ m. IsNewest c next m in
        subst M same un.newest

    pub written_opens : (is_disk : IsDisk d) (c : List ℕ) → WriteLeaves d b turn said next meta c → OpensByEither turn said meta touched s c
    written_opens is_disk c left =
        let same : left.base ≡ b = ready.alone b left.base told left.image in
        let T : List ℕ → Type 0 = λ l. Torn (slot_offset next) 41 l c in
        let torn : Torn (slot_offset next) 41 b c = subst T same left.elsewhere in
        elim left.newest [
          | inl old ↦ inl (still_place b c (slot_offset next) 41 lies.place (ready.placed.here.images b (is_disk.as_read b told)) torn old)
          | inr (inl new) ↦ new_opens c torn new
          | inr (inr un) ↦ new_opens c torn (uncovered c un)
        ]

    -- the place of the turn after the next has the old superblock still
    old_there : (c : List ℕ) → Torn (slot_offset next) 41 b c → HasNoBody c (next_turn next)
    old_there c torn =
        HasNoBody-other c turn (next_turn next) said small (ap next_turn is)
        (Torn-elsewhere (slot_offset next) 41 (slot_offset turn + 1) 40 b c (old_apart turn next small is) torn ∙ opens.by.newest.there.body)

    -- and once the superblock stands, the file is fresh
    pub written_fresh : (e : DiskModel) → IsDisk e → Becomes (Torn (slot_offset next) 41) d e → file_size meta ≤ e.size
        → IfSome e.told (λ b. (c : List ℕ) → e.Image c → c ≡ b) → IfSome e.told (λ c. IsNewest c next meta) → IsFresh e next meta s
    written_fresh e is_e run room durable newest =
        let after = at_value d.told (λ b. (c : List ℕ) × (e.told ≡ Some c) × Torn (slot_offset next) 41 b c) b told run.told in
        let only : (c : List ℕ) → e.Image c → c ≡ after.0 = at_value e.told (λ b. (c : List ℕ) → e.Image c → c ≡ b) after.0 after.1 durable in
        let newest_is : IsNewest after.0 next meta = at_value e.told (λ c. IsNewest c next meta) after.0 after.1 newest in
        IsFresh-from e is_e (has_value e.told after.0 after.1) next meta s room opens.meta_is (count_of turn said meta touched s b opens)
        (λ c image. let N : List ℕ → Type 0 = λ l. IsNewest l next meta in subst N (sym (only c image)) newest_is)
        (IsSynced-durable e 0 8192 durable)
        (λ c told. let B : List ℕ → Type 0 = λ l. HasNoBody l (next_turn next) in subst B (same_Some after.0 c (sym after.1 ∙ told)) (old_there after.0 after.2))
        (record {
          synced = IsSynced-durable e (log_start next meta) meta.log durable;
          payloads_fit = λ i x lt. absurd (omega (arith, lt));
          count = refl;
          reads = of_value e.told (λ b. range (log_start next meta) meta.log b ≡ [] ++ replicate (meta.log - 0) 0) after.0 after.1
              (zeros_after after.0 after.2 ∙ ap (λ (n : ℕ). replicate n 0) (let none : meta.log ≡ meta.log - 0 = omega arith in none));
        })
        (λ id q is c image. let S : List ℕ → Type 0 = λ l. SpellsPage (place_bytes meta id l) q in subst S (sym (only c image)) (there_after after.0 after.2 id q is))

  abbrev P : List ℕ → Type 0
  P = StillOpens turn said meta touched s

  -- A sync, and the log area of the next turn zeroed.
  module _ {T E U F : Type 0} (q : Result T E) (r : Result U F) (old mid new : DiskModel) (is_old : IsDisk old) (is_mid : IsDisk mid) (is_new : IsDisk new)
      (may : MayTurn old turn said meta touched s) (syncs : Syncs q old mid) (ticks : Ticks q old mid) (area : ℕ) (area_is : area ≡ log_start next meta)
      (moments : IsSome mid.told → Leaves mid new (λ c. (b : List ℕ) × mid.Image b × Torn area meta.log b c)) (run : Becomes (Torn area meta.log) mid new) where
    mid_images : (c : List ℕ) → mid.Image c → P c
    mid_images c image = may.placed.here.images c (syncs.crash c image)

    mid_told : IsSome mid.told
    mid_told = ap is_some syncs.same ∙ may.placed.here.told

    at_area : (b c : List ℕ) → Torn area meta.log b c → Torn (log_start next meta) meta.log b c
    at_area b c torn = let A : ℕ → Type 0 = λ n. Torn n meta.log b c in subst A area_is torn

    pub zeroed_moments : Leaves old new (StillOpens turn said meta touched s)
    zeroed_moments =
        Leaves-then old mid new P (Leaves-call q old old mid P (Leaves-start old P is_old may.placed.here.images) ticks mid_images)
        (Leaves-weaker mid new (λ c. (b : List ℕ) × mid.Image b × Torn area meta.log b c) P (λ c h. still_area h.0 c (mid_images h.0 h.1) (at_area h.0 c h.2)) (moments mid_told))

    pub zeroed_ready : (long : file_size meta ≤ new.size) → IfSome new.told (λ b. (c : List ℕ) → new.Image c → c ≡ b)
        → IfSome mid.told (λ b. new.told ≡ Some (overwritten b area (replicate meta.log 0))) → IsZeroed turn next said meta touched s new
    zeroed_ready long durable zeroed = record {
      placed = record {
        here = record {
          told = Becomes-tells (Torn area meta.log) mid new run mid_told;
          images = now_has old new P is_new zeroed_moments;
          places = IsSynced-durable new 0 8192 durable;
        };
        there = λ id page most is b told.
            let S : List ℕ → Type 0 = λ l. SpellsPage l page in
            let h = lies.next_high in
            subst S (sym (told_elsewhere mid new tears.before b (page_offset meta id) PAGE area meta.log tears.was told (inr (omega (arith, h, area_is))) run))
            (may.placed.there id page most is tears.before (sym syncs.same ∙ tears.was));
      };
      alone = λ b c told image. at_value new.told (λ b. (c : List ℕ) → new.Image c → c ≡ b) b told durable c image;
      zeroed = λ b told.
          let is_b : overwritten tears.before area (replicate meta.log 0) ≡ b = same_Some (overwritten tears.before area (replicate meta.log 0)) b (sym (at_value mid.told (λ b. new.told ≡ Some (overwritten b area (replicate meta.log 0))) tears.before tears.was zeroed) ∙ told) in
          let n : length {A = ℕ} (replicate meta.log 0) ≡ meta.log = length-replicate meta.log 0 in
          let h = lies.next_high in
          let as_long : length b ≡ new.size = is_new.long b (is_new.as_read b told) in
          let fits : area + length {A = ℕ} (replicate meta.log 0) ≤ length tears.before = omega (arith, n, h, area_is, long, run.size, is_mid.long tears.before (is_mid.as_read tears.before tears.was)) in
          ap (λ (k : ℕ). take meta.log (drop k b)) (sym area_is) ∙ ap (λ (l : List ℕ). take meta.log (drop area l)) (sym is_b)
          ∙ ap (λ (k : ℕ). take k (drop area (overwritten tears.before area (replicate meta.log 0)))) (sym n) ∙ overwritten-reads tears.before area (replicate meta.log 0) fits;
      hides = λ b told.
          let low : 8192 ≤ area = let l = lies.next_low in omega (arith, area_is, l) in
          let N : List ℕ → Type 0 = λ l. HidesNoOther l next meta in
          let H : ℕ → Type 0 = λ n. HidesNoOther tears.before n meta in
          subst N (same_Some tears.after b (sym tears.is ∙ told))
          (HidesNoOther-elsewhere tears.before tears.after (places_kept area meta.log tears.before tears.after low tears.torn) next meta
          (subst H (sym is) (may.hides tears.before (sym syncs.same ∙ tears.was))));
    }
      where
        tears : Tore mid new area meta.log
        tears = tore mid new area meta.log mid_told run

  -- The superblock is written.
  module _ (old new : DiskModel) (is_old : IsDisk old) (ready : IsZeroed turn next said meta touched s old) (room : file_size meta ≤ old.size) where
    super_before : (x : List ℕ) × (old.told ≡ Some x)
    super_before = some_value old.told ready.placed.here.told

    super_long : file_size meta ≤ length super_before.0
    super_long = let b = super_before in omega (arith, room, is_old.long b.0 (is_old.as_read b.0 b.1))

    super_opens : StillOpens turn said meta touched s super_before.0
    super_opens = let b = super_before in ready.placed.here.images b.0 (is_old.as_read b.0 b.1)

    super_newest : IsNewest super_before.0 turn said
    super_newest = super_opens.by.newest

    pub super_moments : IfSome old.told (λ b. IsNewest b turn said → Leaves old new (WriteLeaves old b turn said next meta)) → Leaves old new (OpensByEither turn said meta touched s)
    super_moments moments =
        let b = super_before in
        Leaves-weaker old new (WriteLeaves old b.0 turn said next meta) (OpensByEither turn said meta touched s) (written_opens old ready b.0 b.1 super_long super_opens is_old)
        (at_value old.told (λ b. IsNewest b turn said → Leaves old new (WriteLeaves old b turn said next meta)) b.0 b.1 moments super_newest)

    pub super_fresh : IsDisk new → Becomes (Torn (slot_offset next) 41) old new
        → IfSome new.told (λ b. (c : List ℕ) → new.Image c → c ≡ b) → IfSome old.told (λ b. IsNewest b turn said → IfSome new.told (λ c. IsNewest c next meta)) → IsFresh new next meta s
    super_fresh is_new run durable newest =
        let b = super_before in
        (written_fresh old ready b.0 b.1 super_long super_opens new is_new run (omega (arith, room, run.size)) durable
        (at_value old.told (λ b. IsNewest b turn said → IfSome new.told (λ c. IsNewest c next meta)) b.0 b.1 newest super_newest))

-- either way they open to the file
pub either_to : (turn : ℕ) (said meta : Meta) (touched : ℕ → Option Page) (s : FileState) (c : List ℕ) → OpensByEither turn said meta touched s c → OpensTo c s
either_to turn said meta touched s c (inl opens) = still_to turn said meta touched s c opens
either_to turn said meta touched s c (inr opens) = record { turn = next_turn turn; said = meta; payloads = []; groups = []; by = opens }

-- the sync that comes first
pub sync_moments : {T E : Type 0} (turn : ℕ) (said meta : Meta) (touched : ℕ → Option Page) (s : FileState) (q : Result T E) (old mid : DiskModel) → IsDisk old → MayTurn old turn said meta touched s → Syncs q old mid
    → Leaves old mid (StillOpens turn said meta touched s)
sync_moments turn said meta touched s q old mid is_old may syncs =
    Leaves-call q old old mid (StillOpens turn said meta touched s) (Leaves-start old (StillOpens turn said meta touched s) is_old may.placed.here.images) syncs.ticks (λ c image. may.placed.here.images c (syncs.crash c image))
