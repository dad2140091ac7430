-- A page that is written to its place.
use Rattle.std.proofs.Common.{◌≡◌, inl, inr, ℕ, ◌+◌, ◌≤◌, List, length, take, drop, Some, None, IfSome, IsSome, Result, Ok, IsErr, sym, ap, ◌∙◌, subst, arith}
use Rattle.std.proofs.lemmas.Bool.{cases_lt, false≢true}
use Rattle.std.proofs.lemmas.Option.{same_Some}
use Rattle.std.proofs.Math.Nat.{eq-or-lt_of_le}
use Rattle.hb_space.specs.declared.form.TheConstants.{PAGE}
use Rattle.hb_disk.specs.Model.{DiskModel, IsDisk, overwritten, Torn}
use Rattle.hb_disk.specs.Calls.{Apart, Becomes, Ticks}
use Rattle.hb_disk.proofs.Facts.OverwrittenLaws.{overwritten-reads}
use Rattle.hb_lemmas.proofs.Options.{at_value, some_value, has_value, was_some}
use Rattle.hb_frag.specs.declared.pages.Page.{Page}
use Rattle.hb_frag.specs.Grammar.{SpellsPage}
use Rattle.hb_layout.specs.declared.meta.Meta.{Meta}
use Rattle.hb_layout.specs.Offsets.{file_size, page_offset, log_start, slot_offset}
use Rattle.hb_store.specs.Opening.{place_bytes}
use Rattle.hb_layout.proofs.Facts.Parts.{log_within, super_within}
use Rattle.hb_store.specs.Switching.{TornSwitch}
use Rattle.hb_disk.proofs.Facts.TornLaws.{Torn-twice, Torn-wider}
use Rattle.hb_super.specs.Superblocks.{next_turn}

-- places of two pages don't meet
pub other_place : (meta : Meta) (id at : ℕ) → 1 ≤ id → 1 ≤ at → (id ≡ at → ⊥) → Apart (page_offset meta id) PAGE (page_offset meta at) PAGE
other_place meta id at some first other = elim (cases_lt id at) [
  | inl less ↦ inl (omega (arith, less, some, first))
  | inr most ↦ inr (omega (arith, most, other, some, first))
]

-- a call that succeeds is one tick
pub ok_tick : {T E : Type 0} (r : Result T E) (v : T) (old new : DiskModel) → r ≡ Ok v → IsDisk old → IsSome old.told → Ticks r old new → new.clock ≡ old.clock + 1
ok_tick {T = T} {E = E} r v old new ok is_old tells ticks = elim (eq-or-lt_of_le is_old.clock_fits) [
  | inl at_end ↦ let Q : Result T E → Type 0 = λ q. IsErr q in absurd (false≢true (subst Q ok (ticks.ended tells at_end).0))
  | inr before ↦ ticks.tick tells before
]

-- what a read gives of the place then
pub page_written : (old new : DiskModel) → IsDisk old → (at : ℕ) (bytes : List ℕ) (meta : Meta) (id : ℕ) (page : Page) → at ≡ page_offset meta id → SpellsPage bytes page → file_size meta ≤ old.size → 1 ≤ id → id ≤ meta.pages
    → (old.told ≡ None → new.told ≡ None) → IfSome old.told (λ b. new.told ≡ Some (overwritten b at bytes))
    → (b : List ℕ) → new.told ≡ Some b → SpellsPage (place_bytes meta id b) page
page_written old new is_old at bytes meta id page here spells room some most silent written b told =
    let before = some_value old.told (was_some old.told new.told silent (has_value new.told b told)) in
    let after = overwritten before.0 at bytes in
    let same : after ≡ b = same_Some after b (sym (at_value old.told (λ x. new.told ≡ Some (overwritten x at bytes)) before.0 before.1 written) ∙ told) in
    let fits : at + length bytes ≤ length before.0 = omega (arith, here, spells.long, room, some, most, is_old.long before.0 (is_old.as_read before.0 before.1)) in
    let reads : place_bytes meta id b ≡ bytes =
    ap (λ (l : List ℕ). take PAGE (drop (page_offset meta id) l)) (sym same) ∙ ap (λ (n : ℕ). take PAGE (drop n after)) (sym here)
    ∙ ap (λ (n : ℕ). take n (drop at after)) (sym spells.long) ∙ overwritten-reads before.0 at bytes fits in
    let S : List ℕ → Type 0 = λ l. SpellsPage l page in
    subst S (sym reads) spells

pub becomes_there : (old new : DiskModel) (at n : ℕ) (meta : Meta) (id : ℕ) → at ≡ page_offset meta id → n ≡ PAGE → Becomes (Torn at n) old new → Becomes (Torn (page_offset meta id) PAGE) old new
becomes_there old new at n meta id here long run =
    let A : ℕ → Type 0 = λ k. Becomes (Torn k PAGE) old new in
    let N : ℕ → Type 0 = λ k. Becomes (Torn at k) old new in
    subst A here (subst N long run)

-- The bytes that a disk tells before a call that may tear a range, and behind it.
pub record Tore (old new : DiskModel) (at n : ℕ) : Type 0 where
  pub before : List ℕ
  pub was : old.told ≡ Some before
  pub after : List ℕ
  pub is : new.told ≡ Some after
  pub torn : Torn at n before after

pub tore : (old new : DiskModel) (at n : ℕ) → IsSome old.told → Becomes (Torn at n) old new → Tore old new at n
tore old new at n tells run =
    let was = some_value old.told tells in
    let after = at_value old.told (λ b. (c : List ℕ) × (new.told ≡ Some c) × Torn at n b c) was.0 was.1 run.told in
    record { before = was.0; was = was.1; after = after.0; is = after.1; torn = after.2 }

-- what changes as the next turn begins lies in front of the pages
pub switch_within : (turn : ℕ) (meta : Meta) (b c : List ℕ) → TornSwitch turn meta b c → Torn 0 (page_offset meta 1) b c
switch_within turn meta b c torn =
    let n = page_offset meta 1 in
    let area = log_within (next_turn turn) 1 meta in
    let place = super_within (next_turn turn) meta in
    Torn-twice 0 n b torn.between c
    (Torn-wider (log_start (next_turn turn) meta) meta.log 0 n b torn.between (omega arith) (omega (arith, area)) torn.area)
    (Torn-wider (slot_offset (next_turn turn)) 41 0 n torn.between c (omega arith) (omega (arith, place)) torn.place)
