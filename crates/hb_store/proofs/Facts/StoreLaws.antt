-- What follows of what a store keeps: what its disk opens to, and how many files are to come.
use Rattle.std.proofs.Common.{◌≡◌, ◌⊎◌, inl, inr, ℕ, Bool, false, IsTrue, List, [], ◌∷◌, ◌++◌, length, map, flat_map, sym, ap, ◌∙◌, subst, arith}
use Rattle.std.proofs.lemmas.List.{nil_from_length}
use Rattle.hb_disk.specs.Model.{DiskModel}
use Rattle.hb_wal.specs.Log.{Waiting}
use Rattle.hb_layout.specs.declared.meta.Meta.{Meta}
use Rattle.hb_super.specs.Superblocks.{next_turn}
use Rattle.hb_ops.specs.Files.{FileState, last_of}
use Rattle.hb_log_codec.specs.Groups.{Logged, group_bytes}
use Rattle.hb_store.specs.Replay.{Replayed}
use Rattle.hb_store.specs.Opening.{OpensBy, OpensTo}
use Rattle.hb_store.specs.States.{StoreState}
use Rattle.hb_store.specs.Keeps.{StoreKeeps, OpensToEither, PartsOpen}
use Rattle.hb_store.specs.Parts.{Parts, Leads, OpensNext}

-- By the durable file's groups, or by those and all that wait. `OpensHere` and `OpensOn` say so of a store's parts.
abbrev pub OpensHere : List ℕ → ℕ → Parts → FileState → Type 0
OpensHere c turn p durable = OpensBy c turn p.said p.payloads p.written durable

abbrev pub OpensOn : List ℕ → ℕ → Parts → FileState → Type 0
OpensOn c turn p next = OpensNext c turn p.said p.payloads p.written p.waiting next

pub opens_either : (c : List ℕ) (turn : ℕ) (said : Meta) (payloads : List (List ℕ)) (written waiting : List Logged) (durable : FileState) (later : List FileState)
    → OpensBy c turn said payloads written durable ⊎ OpensNext c turn said payloads written waiting (last_of durable later) → OpensToEither durable later c
opens_either c turn said payloads written waiting durable later (inl by) = inl (record { turn = turn; said = said; payloads = payloads; groups = written; by = by })
opens_either c turn said payloads written waiting durable later (inr by) =
    inr (record { turn = turn; said = said; payloads = payloads ++ flat_map group_bytes waiting ∷ []; groups = written ++ waiting; by = by })

-- By the next turn's superblock, over a log without a frame, as a failed switch may leave it.
abbrev pub OpensAfter : List ℕ → ℕ → FileState → Type 0
OpensAfter c turn durable = OpensBy c (next_turn turn) durable.meta [] [] durable

running_only : (b : Bool) (A B C : Type 0) → b ≡ false → A ⊎ (IsTrue b × B) ⊎ (IsTrue b × C) → A
running_only b A B C going (inl a) = a
running_only b A B C going (inr (inl (stopped, h))) = cc (going, stopped)
running_only b A B C going (inr (inr (stopped, h))) = cc (going, stopped)

-- by this turn's superblock, or by the next one's
pub by_turn : (A B C S : Type 0) → A ⊎ (S × B) ⊎ (S × C) → (A ⊎ B) ⊎ C
by_turn A B C S (inl a) = inl (inl a)
by_turn A B C S (inr (inl (s, b))) = inl (inr b)
by_turn A B C S (inr (inr (s, c))) = inr c

opens_turn : (c : List ℕ) (turn : ℕ) (said : Meta) (payloads : List (List ℕ)) (written waiting : List Logged) (durable : FileState) (later : List FileState)
    → (OpensBy c turn said payloads written durable ⊎ OpensNext c turn said payloads written waiting (last_of durable later)) ⊎ OpensAfter c turn durable → OpensToEither durable later c
opens_turn c turn said payloads written waiting durable later (inl by) = opens_either c turn said payloads written waiting durable later by
opens_turn c turn said payloads written waiting durable later (inr by) = inl (record { turn = next_turn turn; said = durable.meta; payloads = []; groups = []; by = by })

pub opens_by_parts : PartsOpen
opens_by_parts c turn stopped p durable later opens =
    opens_turn c turn p.said p.payloads p.written p.waiting durable later
    (by_turn (OpensHere c turn p durable) (OpensOn c turn p (last_of durable later)) (OpensAfter c turn durable) (IsTrue stopped) opens)

-- Each image opens to the durable file, or to the one after all groups that wait.
pub StoreKeeps-opens : (d : DiskModel) (st : StoreState) (durable : FileState) (later : List FileState) → StoreKeeps d st durable later
    → (c : List ℕ) → d.Image c → OpensToEither durable later c
StoreKeeps-opens d st durable later keeps c image = opens_by_parts c st.turn st.stopped keeps.parts durable later (keeps.disk.images c image)

-- While the store runs, each image opens to the durable file: by the written groups, and so at all.
pub StoreKeeps-by : (d : DiskModel) (st : StoreState) (durable : FileState) (later : List FileState) → (keeps : StoreKeeps d st durable later) → st.stopped ≡ false
    → (c : List ℕ) → d.Image c → OpensHere c st.turn keeps.parts durable
StoreKeeps-by d st durable later keeps going c image =
    running_only st.stopped (OpensHere c st.turn keeps.parts durable) (OpensOn c st.turn keeps.parts (last_of durable later)) (OpensAfter c st.turn durable) going (keeps.disk.images c image)

pub StoreKeeps-running : (d : DiskModel) (st : StoreState) (durable : FileState) (later : List FileState) → StoreKeeps d st durable later → st.stopped ≡ false
    → (c : List ℕ) → d.Image c → OpensTo c durable
StoreKeeps-running d st durable later keeps going c image =
    let p = keeps.parts in
    record { turn = st.turn; said = p.said; payloads = p.payloads; groups = p.written; by = StoreKeeps-by d st durable later keeps going c image }

-- one file is to come for each group that waits
count_both : (groups : List Waiting) (waiting : List Logged) (t : Replayed) (s : FileState) (later : List FileState)
    → map (λ w. w.bytes) groups ≡ map group_bytes waiting → Leads t s waiting later → length later ≡ length groups
count_both [] [] t s later same leads = ap (λ (l : List FileState). length l) leads
count_both [] (g ∷ waiting) t s later same leads = cc same
count_both (w ∷ groups) [] t s later same leads = cc same
count_both (w ∷ groups) (g ∷ waiting) t s [] same leads = absurd leads
count_both (w ∷ groups) (g ∷ waiting) t s (next ∷ later) same leads =
    let rest : map (λ (w : Waiting). w.bytes) groups ≡ map group_bytes waiting = cc in
    let count : length later ≡ length groups = count_both groups waiting _ next later rest leads.5 in
    omega (arith, count)

pub StoreKeeps-one : (d : DiskModel) (st : StoreState) (durable : FileState) (later : List FileState) → StoreKeeps d st durable later → length later ≡ length st.log.groups
StoreKeeps-one d st durable later keeps = count_both st.log.groups keeps.parts.waiting _ durable later keeps.waits.spelled keeps.waits.leads

pub StoreKeeps-alone : (d : DiskModel) (st : StoreState) (durable : FileState) (later : List FileState) → StoreKeeps d st durable later → st.log.groups ≡ [] → later ≡ []
StoreKeeps-alone d st durable later keeps none =
    nil_from_length later (StoreKeeps-one d st durable later keeps ∙ ap (λ (l : List Waiting). length l) none)

-- so what a step does to a store with no file to come it does to one in which no group waits
pub StoreKeeps-idle : (d : DiskModel) (st : StoreState) (P : FileState → List FileState → Type 0) → st.log.groups ≡ [] → ((durable : FileState) → StoreKeeps d st durable [] → P durable [])
    → (durable : FileState) (later : List FileState) → StoreKeeps d st durable later → P durable later
StoreKeeps-idle d st P none alone durable later keeps =
    let empty = StoreKeeps-alone d st durable later keeps none in
    subst (P durable) (sym empty) (alone durable (subst (λ (l : List FileState). StoreKeeps d st durable l) empty keeps))
