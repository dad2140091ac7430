-- What a store keeps is determined by the store and its disk.
use Rattle.std.proofs.Common.{◌≡◌, ◌⊎◌, inl, inr, ℕ, IsTrue, Some, ◌+◌, List, [], ◌∷◌, ◌++◌, length, map, flat_map, All, refl, sym, ap, ◌∙◌, subst, arith, length-append}
use Rattle.std.proofs.lemmas.Grind.{flat_map-append}
use Rattle.std.proofs.lemmas.List.Elements.{All-head, All-tail}
use Rattle.hb_disk.specs.Model.{DiskModel, IsDisk}
use Rattle.hb_lemmas.proofs.Lists.{same_fronts}
use Rattle.hb_lemmas.proofs.Options.{some_value}
use Rattle.hb_super.proofs.Facts.Gates.{never_both}
use Rattle.hb_super.specs.Superblocks.{IsNewest, next_turn}
use Rattle.hb_wal.specs.Frames.{frames, frame_bytes, ReadsOneWay}
use Rattle.hb_layout.specs.declared.meta.Meta.{Meta}
use Rattle.hb_ops.specs.Files.{FileState, last_of}
use Rattle.hb_log_codec.specs.Groups.{Logged, FitsGroup, group_bytes}
use Rattle.hb_page_codec.proofs.Facts.PageLaws.{SpelledOnce}
use Rattle.hb_store.proofs.Facts.Spellings.{OneGroup, OneList, one_log}
use Rattle.hb_store.specs.Replay.{Replayed, untouched, replay, after_group}
use Rattle.hb_store.specs.Opening.{OpensBy, OpensTo, Shows}
use Rattle.hb_store.specs.States.{StoreState}
use Rattle.hb_store.specs.Keeps.{StoreKeeps}
use Rattle.hb_store.specs.Parts.{Leads, OpensNext, Parts, written_pages}
use Rattle.hb_store.proofs.Facts.StoreLaws.{OpensAfter, OpensHere, OpensOn, by_turn}
use Rattle.hb_store.proofs.OneFile.{OneTurn, OneMeta, one_file, same_shown}

-- ---- lists

-- lists that are the same with as many behind each
same_before : {A : Type 0} (xs ys more others : List A) → length more ≡ length others → xs ++ more ≡ ys ++ others → xs ≡ ys
same_before xs ys more others count e = (same_fronts xs ys more others (omega (arith, count, ap (λ l. length l) e, length-append xs more, length-append ys others)) e).0

-- no list of payloads has as many bytes of frames as that list with one payload more
longer : (p q : List (List ℕ)) (x : List ℕ) → length (frames p) ≡ length (frames q) → p ≡ q ++ x ∷ [] → ⊥
longer p q x long e =
    let more : length (frames p) ≡ length (frames q) + length (frames (x ∷ [])) =
    ap (λ (l : List (List ℕ)). length (frames l)) e ∙ ap (λ (l : List ℕ). length l) (flat_map-append frame_bytes q (x ∷ [])) ∙ length-append (frames q) (frames (x ∷ [])) in
    absurd (omega (arith, more, long))

-- ---- the files to come

-- the groups that wait lead from a file to the same ones, whatever the touched pages are
later_same : (t u : Replayed) (s : FileState) (groups : List Logged) (later others : List FileState) → Leads t s groups later → Leads u s groups others → later ≡ others
later_same t u s [] later others here there = here ∙ sym there
later_same t u s (g ∷ rest) [] others here there = absurd here
later_same t u s (g ∷ rest) (x ∷ xs) [] here there = absurd there
later_same t u s (g ∷ rest) (x ∷ xs) (y ∷ ys) here there =
    let first : x ≡ y = here.4 ∙ sym there.4 in
    let more = later_same (after_group t g) (after_group u g) x rest xs ys here.5 (subst (λ n. Leads (after_group u g) n rest ys) (sym first) there.5) in
    λ i. first i ∷ more i

-- What a disk's told bytes that open by the superblock of the store's turn say of a store that keeps these files.
pub record Tells (b : List ℕ) (turn written_bytes : ℕ) (said : Meta) (payloads : List (List ℕ)) (written waiting : List Logged) (durable next : FileState) : Type 0 where
  pub count : length (frames payloads) ≡ written_bytes
  pub opens : OpensBy b turn said payloads written durable ⊎ OpensNext b turn said payloads written waiting next
  pub shows : Shows b said (replay (untouched said) written) durable

module _ (once : SpelledOnce) (one : OneList) (group : OneGroup) (turns : OneTurn) (metas : OneMeta) (way : ReadsOneWay) where
  waiting_same : (k : ℕ) (xs ys : List Logged) → All (FitsGroup k) xs → All (FitsGroup k) ys → map group_bytes xs ≡ map group_bytes ys → xs ≡ ys
  waiting_same k [] [] x_fit y_fit e = refl
  waiting_same k [] (y ∷ ys) x_fit y_fit e = cc e
  waiting_same k (x ∷ xs) [] x_fit y_fit e = cc e
  waiting_same k (x ∷ xs) (y ∷ ys) x_fit y_fit e =
      let bytes : group_bytes x ≡ group_bytes y = cc in
      let rest : map group_bytes xs ≡ map group_bytes ys = cc in
      let first = (group k x y [] [] (All-head (FitsGroup k) x xs x_fit) (All-head (FitsGroup k) y ys y_fit) (ap (λ (l : List ℕ). l ++ []) bytes)).0 in
      let more = waiting_same k xs ys (All-tail (FitsGroup k) x xs x_fit) (All-tail (FitsGroup k) y ys y_fit) rest in
      λ i. first i ∷ more i

  module _ (b : List ℕ) (turn : ℕ) where
    newest : (said : Meta) (payloads : List (List ℕ)) (written waiting : List Logged) (s next : FileState)
        → OpensBy b turn said payloads written s ⊎ OpensNext b turn said payloads written waiting next → IsNewest b turn said
    newest said payloads written waiting s next (inl by) = by.newest
    newest said payloads written waiting s next (inr by) = by.newest

    module _ (said : Meta) where
      log_same : (p q : List (List ℕ)) (xs ys : List Logged) (s u : FileState) → OpensBy b turn said p xs s → OpensBy b turn said q ys u → (p ≡ q) × (xs ≡ ys)
      log_same p q xs ys s u here there = one_log one way b turn said p q xs ys here.log there.log

      -- whether the frame of the groups that wait is there or not
      written_same : (p q : List (List ℕ)) (xs ys gs hs : List Logged) (s u m n : FileState) → length (frames p) ≡ length (frames q) → length gs ≡ length hs
          → OpensBy b turn said p xs s ⊎ OpensNext b turn said p xs gs m → OpensBy b turn said q ys u ⊎ OpensNext b turn said q ys hs n → xs ≡ ys
      written_same p q xs ys gs hs s u m n long count (inl here) (inl there) = (log_same p q xs ys s u here there).1
      written_same p q xs ys gs hs s u m n long count (inl here) (inr there) =
          absurd (longer p q (flat_map group_bytes hs) long (log_same p (q ++ flat_map group_bytes hs ∷ []) xs (ys ++ hs) s n here there).0)
      written_same p q xs ys gs hs s u m n long count (inr here) (inl there) =
          absurd (longer q p (flat_map group_bytes gs) (sym long) (sym (log_same (p ++ flat_map group_bytes gs ∷ []) q (xs ++ gs) ys m u here there).0))
      written_same p q xs ys gs hs s u m n long count (inr here) (inr there) =
          same_before xs ys gs hs count (log_same (p ++ flat_map group_bytes gs ∷ []) (q ++ flat_map group_bytes hs ∷ []) (xs ++ gs) (ys ++ hs) m n here there).1

    module _ (n : ℕ) (said : Meta) (p q : List (List ℕ)) (xs ys gs hs : List Logged) (s u next other : FileState) (waiting_is : gs ≡ hs)
        (here : Tells b turn n said p xs gs s next) (there : Tells b turn n said q ys hs u other) where
      written_is : xs ≡ ys
      written_is = written_same said p q xs ys gs hs s u next other (here.count ∙ sym there.count) (ap (λ (l : List Logged). length l) waiting_is) here.opens there.opens

      durable_is : s ≡ u
      durable_is = same_shown once one b said (replay (untouched said) ys) s u (subst (λ l. Shows b said (replay (untouched said) l) s) written_is here.shows) there.shows

    -- by the next turn's superblock, over a log without a frame
    by_next : (s : FileState) → OpensAfter b turn s → OpensTo b s
    by_next s by = record { turn = next_turn turn; said = s.meta; payloads = []; groups = []; by = by }

  module _ (d : DiskModel) (is_disk : IsDisk d) (st : StoreState) (b : List ℕ) (told : d.told ≡ Some b) where
    -- by the superblock of the store's turn
    abbrev Here : Parts → FileState → List FileState → Type 0
    Here p durable later = OpensHere b st.turn p durable ⊎ OpensOn b st.turn p (last_of durable later)

    tells : (durable : FileState) (later : List FileState) → (keeps : StoreKeeps d st durable later) → Here keeps.parts durable later
        → Tells b st.turn st.log.written keeps.parts.said keeps.parts.payloads keeps.parts.written keeps.parts.waiting durable (last_of durable later)
    tells durable later keeps opens = record { count = keeps.disk.count; opens = opens; shows = keeps.disk.shows b (is_disk.as_read b told) }

    newest_here : (p : Parts) (durable : FileState) (later : List FileState) → Here p durable later → IsNewest b st.turn p.said
    newest_here p durable later opens = newest b st.turn p.said p.payloads p.written p.waiting durable (last_of durable later) opens

    opened : (durable : FileState) (later : List FileState) → (keeps : StoreKeeps d st durable later) → Here keeps.parts durable later ⊎ OpensAfter b st.turn durable
    opened durable later keeps =
        let p = keeps.parts in
        by_turn (OpensHere b st.turn p durable) (OpensOn b st.turn p (last_of durable later)) (OpensAfter b st.turn durable) (IsTrue st.stopped) (keeps.disk.images b (is_disk.as_read b told))

    -- the superblock of the store's turn and that of the next one aren't both the newest
    not_after : (p : Parts) (s durable : FileState) (later : List FileState) → Here p durable later → OpensAfter b st.turn s → ⊥
    not_after p s durable later here there =
        let same = turns b st.turn (next_turn st.turn) p.said s.meta (newest_here p durable later here) there.newest in
        never_both st.turn st.turn same same

    -- the groups that wait fit the layout that the store has
    fits_store : (durable : FileState) (later : List FileState) → (keeps : StoreKeeps d st durable later) → All (FitsGroup st.meta.k) keeps.parts.waiting
    fits_store durable later keeps = subst (λ (k : ℕ). All (FitsGroup k) keeps.parts.waiting) (sym keeps.memory.layout.k) keeps.waits.fits

    module _ (durable other : FileState) (later others : List FileState) (here : StoreKeeps d st durable later) (there : StoreKeeps d st other others) where
      waiting_is : here.parts.waiting ≡ there.parts.waiting
      waiting_is = waiting_same st.meta.k here.parts.waiting there.parts.waiting (fits_store durable later here) (fits_store other others there) (sym here.waits.spelled ∙ there.waits.spelled)

      durable_here : Here here.parts durable later → Here there.parts other others → durable ≡ other
      durable_here x y =
          let p = here.parts in
          let q = there.parts in
          let said_is : q.said ≡ p.said = metas b st.turn st.turn q.said p.said (newest_here q other others y) (newest_here p durable later x) in
          durable_is b st.turn st.log.written p.said p.payloads q.payloads p.written q.written p.waiting q.waiting durable other (last_of durable later) (last_of other others) waiting_is
          (tells durable later here x)
          (subst (λ m. Tells b st.turn st.log.written m q.payloads q.written q.waiting other (last_of other others)) said_is (tells other others there y))

      durable_by : Here here.parts durable later ⊎ OpensAfter b st.turn durable → Here there.parts other others ⊎ OpensAfter b st.turn other → durable ≡ other
      durable_by (inl x) (inl y) = durable_here x y
      durable_by (inl x) (inr y) = absurd (not_after here.parts other durable later x y)
      durable_by (inr x) (inl y) = absurd (not_after there.parts durable other others y x)
      durable_by (inr x) (inr y) = one_file once one turns metas way b durable other (by_next b st.turn durable x) (by_next b st.turn other y)

      durable_same : durable ≡ other
      durable_same = durable_by (opened durable later here) (opened other others there)

      later_kept : later ≡ others
      later_kept = later_same (written_pages here.parts) (written_pages there.parts) other there.parts.waiting later others
          (subst (λ f. Leads (written_pages here.parts) f there.parts.waiting later) durable_same
          (subst (λ l. Leads (written_pages here.parts) durable l later) waiting_is here.waits.leads)) there.waits.leads

  -- a store keeps one file, and the same ones to come
  pub one_durable : (d : DiskModel) → IsDisk d → (st : StoreState) (durable other : FileState) (later others : List FileState)
      → StoreKeeps d st durable later → StoreKeeps d st other others → durable ≡ other
  one_durable d is_disk st durable other later others here there =
      let told = some_value d.told here.disk.told in
      durable_same d is_disk st told.0 told.1 durable other later others here there

  pub one_later : (d : DiskModel) → IsDisk d → (st : StoreState) (durable other : FileState) (later others : List FileState)
      → StoreKeeps d st durable later → StoreKeeps d st other others → later ≡ others
  one_later d is_disk st durable other later others here there =
      let told = some_value d.told here.disk.told in
      later_kept d is_disk st told.0 told.1 durable other later others here there
