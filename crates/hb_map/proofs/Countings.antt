-- The pages that name each page, counted page by page.
use Rattle.std.proofs.Common.{◌≡◌, ℕ, ◌+◌, ◌<◌, ◌≤◌, Bool, true, false, cond, List, [], length, drop, get_or, Some, inl, inr, sym, ap, ◌∙◌, arith}
use Rattle.std.proofs.Math.ListN.{drop_of_length-le}
use Rattle.std.proofs.lemmas.Bool.{cases_lt}
use Rattle.std.proofs.lemmas.List.{get_or_past}
use Rattle.std.proofs.lemmas.List.Sums.{sum_by-cons}
use Rattle.hb_frag.specs.declared.pages.Page.{Page}
use Rattle.hb_layout.specs.declared.meta.Meta.{Meta}
use Rattle.hb_disk.specs.Model.{DiskModel}
use Rattle.hb_ops.specs.Files.{FileState, page_at, last_of}
use Rattle.hb_ops.specs.Sound.{IsSound}
use Rattle.hb_store.specs.Held.{StoreHeld}
use Rattle.hb_store.specs.Keeps.{StoreKeeps}
use Rattle.hb_map.specs.Map.{is_parent, parents_of}
use Rattle.hb_map.specs.Mapping.{AreParents}
use Rattle.hb_map.proofs.Texts.{next_page}

-- a file of a store has as many pages as its highest number says
pub as_many_pages : (d : DiskModel) (held : StoreHeld) (durable : FileState) (later : List FileState) → StoreKeeps d held.state durable later → IsSound (last_of durable later) → length (last_of durable later).pages ≡ held.state.meta.high
as_many_pages d held durable later keeps sound = sound.rooted.numbered ∙ ap (λ (m : Meta). m.high) keeps.memory.meta_is

-- one page more was counted
pub counted_on : (s : FileState) (place high : ℕ) (page : Page) (old new : List ℕ) → page_at s.pages (place + 1) ≡ Some page → length old ≡ high → ((i : ℕ) → i < length old → get_or new i 0 ≡ get_or old i 0 + cond (is_parent (i + 1) page) 1 0)
    → ((i : ℕ) → i < high → get_or old i 0 + parents_of (i + 1) (drop place s.pages) ≡ parents_of (i + 1) s.pages) → (i : ℕ) → i < high → get_or new i 0 + parents_of (i + 1) (drop (place + 1) s.pages) ≡ parents_of (i + 1) s.pages
counted_on s place high page old new there long more before i low =
    let within : i < length old = omega (arith, long, low) in
    let here = ap (parents_of (i + 1)) (next_page s.pages place page there) ∙ sum_by-cons (λ (q : Page). cond (is_parent (i + 1) q) 1 0) page (drop (place + 1) s.pages) in
    let now = more i within in
    let was = before i low in
    omega (arith, here, now, was)

pub low_on : (old new : List ℕ) (n : ℕ) (test : ℕ → Bool) → length new ≡ length old → ((i : ℕ) → i < length old → get_or new i 0 ≡ get_or old i 0 + cond (test i) 1 0) → ((i : ℕ) → get_or old i 0 ≤ n) → (i : ℕ) → get_or new i 0 ≤ n + 1
low_on old new n test long more low i = elim (cases_lt i (length old)) [
  | inl within ↦
      let one : cond (test i) 1 0 ≤ 1 = elim (test i) as (λ b. cond b 1 0 ≤ 1) [ true ↦ omega arith | false ↦ omega arith ] in
      let now = more i within in
      let was = low i in
      omega (arith, one, now, was)
  | inr beyond ↦
      let past : get_or new i 0 ≡ 0 = get_or_past new i 0 (omega (arith, beyond, long)) in
      omega (arith, past)
]

-- all pages were counted
pub all_counted : (s : FileState) (high place : ℕ) (counts : List ℕ) → length s.pages ≡ high → length counts ≡ high → high ≤ place
    → ((i : ℕ) → i < high → get_or counts i 0 + parents_of (i + 1) (drop place s.pages) ≡ parents_of (i + 1) s.pages) → AreParents s counts
all_counted s high place counts pages long end counted = record {
  long = long ∙ sym pages;
  each = λ i low.
      let none : drop place s.pages ≡ [] = drop_of_length-le s.pages (omega (arith, pages, end)) in
      let rest : parents_of (i + 1) (drop place s.pages) ≡ 0 = ap (parents_of (i + 1)) none in
      let all = counted i (omega (arith, low, long)) in
      omega (arith, rest, all);
}
