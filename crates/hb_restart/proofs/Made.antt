-- What the bytes of a new file are.
use Rattle.std.specs.Result.{is_err}
use Rattle.std.proofs.Common.{true, false, ◌≡◌, ◌⊎◌, inl, inr, ℕ, ◌+◌, ◌*◌, ◌-◌, ◌<◌, ◌≤◌, List, [], ◌++◌, length, take, drop, replicate, get_or, Some, IfSome, Result, Ok, Err, OnOk, refl, sym, ap, ◌∙◌, subst, arith, length-take, length-drop}
use Rattle.std.proofs.lemmas.List.{get_or-take, get_or-drop, ext_get_or, length-replicate, get_or-replicate}
use Rattle.hb_space.specs.declared.form.TheConstants.{PAGE}
use Rattle.hb_disk.specs.Model.{DiskModel, IsDisk, overwritten}
use Rattle.hb_lemmas.proofs.Options.{at_value, of_value, has_value}
use Rattle.std.proofs.lemmas.Option.{same_Some}
use Rattle.hb_disk.proofs.Facts.SyncedLaws.{IsSynced-durable}
use Rattle.hb_disk.proofs.Facts.TornLaws.{IsOutside}
use Rattle.hb_disk.proofs.Facts.OverwrittenLaws.{length-overwritten, overwritten-inside, overwritten-outside, overwritten-reads}
use Rattle.hb_frag.specs.declared.pages.Page.{Page}
use Rattle.hb_frag.specs.Grammar.{SpellsPage}
use Rattle.hb_wal.specs.Frames.{range}
use Rattle.hb_super.specs.Superblocks.{IsNewest}
use Rattle.hb_super.specs.Moments.{HasNoBody}
use Rattle.hb_super.proofs.Facts.BodyLaws.{HasNoBody-elsewhere, HasNoBody-same, HasNoBody-zero}
use Rattle.hb_layout.specs.declared.meta.Meta.{Meta}
use Rattle.hb_ops.specs.Files.{page_of}
use Rattle.hb_layout.specs.Offsets.{file_size, log_start, page_offset}
use Rattle.hb_store.specs.Opening.{log_bytes, place_bytes, OpensTo}
use Rattle.hb_store.specs.Keeps.{IsFresh}
use Rattle.hb_store.proofs.Facts.ReplayLaws.{opens_fresh}
use Rattle.hb_restart.specs.Creation.{HasEmptyPlaces, IsLaidOut}
use Rattle.hb_restart.specs.NewFiles.{lone}
use Rattle.hb_restart.proofs.Facts.LoneLaws.{page_alone}

-- a part of the bytes that isn't overwritten
pub part_kept : (b : List ℕ) (at : ℕ) (piece : List ℕ) (from m : ℕ) → at + length piece ≤ length b → (from + m ≤ at) ⊎ (at + length piece ≤ from)
    → take m (drop from (overwritten b at piece)) ≡ take m (drop from b)
part_kept b at piece from m fits apart =
    let after = overwritten b at piece in
    let as_long : length after ≡ length b = length-overwritten b at piece fits in
    let long : length (take m (drop from after)) ≡ length (take m (drop from b)) = omega (arith, length-take m (drop from after), length-take m (drop from b), length-drop from after, length-drop from b, as_long) in
    ext_get_or 0 (take m (drop from after)) (take m (drop from b)) long (λ i h.
    let here : i < m = omega (arith, length-take m (drop from after), h) in
    let outside : IsOutside at (length piece) (from + i) = elim apart [ inl front ↦ inl (omega (arith, front, here)) | inr behind ↦ inr (omega (arith, behind)) ] in
    get_or-take m (drop from after) i 0 here ∙ get_or-drop from after i 0 ∙ overwritten-outside b at piece fits (from + i) outside
    ∙ sym (get_or-drop from b i 0) ∙ sym (get_or-take m (drop from b) i 0 here))

-- both places in a front that was zeroed
pub zeroed_places : (b : List ℕ) (n : ℕ) → 4097 < n → n ≤ length b → HasEmptyPlaces (overwritten b 0 (replicate n 0))
zeroed_places b n some fits = record {
  first = zero_at 0 (omega (arith, some));
  second = zero_at 4096 (omega (arith, some));
  no_body = HasNoBody-zero (overwritten b 0 (replicate n 0)) 1 (zero_at 4097 some);
}
  where
    long : length {A = ℕ} (replicate n 0) ≡ n
    long = length-replicate n 0

    zero_at : (i : ℕ) → i < n → get_or (overwritten b 0 (replicate n 0)) i 0 ≡ 0
    zero_at i lt =
        overwritten-inside b 0 (replicate n 0) (omega (arith, long, fits)) i (omega arith) (omega (arith, long, lt))
        ∙ get_or-replicate n (i - 0) 0 0 (omega (arith, lt))

pub on_ok_three : {T E : Type 0} (r : Result T E) (P Q R S : Type 0) → (P → Q → R → S) → OnOk r P → OnOk r Q → OnOk r R → OnOk r S
on_ok_three (Ok v) P Q R S f p q h = f p q h
on_ok_three (Err e) P Q R S f p q h = tt

-- the log area and the page, written into bytes with both gates closed
module _ (b : List ℕ) (meta : Meta) (page : List ℕ) (some : 1 ≤ meta.pages) (fits : file_size meta ≤ length b) (long : length page ≡ PAGE) where
  abbrev log : List ℕ
  log = replicate meta.log 0

  abbrev first : List ℕ
  first = overwritten b 8192 log

  abbrev at : ℕ
  at = 8192 + 2 * meta.log

  log_long : length log ≡ meta.log
  log_long = length-replicate meta.log 0

  first_fits : 8192 + length log ≤ length b
  first_fits = omega (arith, log_long, fits)

  first_long : length first ≡ length b
  first_long = length-overwritten b 8192 log first_fits

  second_fits : at + length page ≤ length first
  second_fits = omega (arith, first_long, long, fits, some)

  gate_kept : (i : ℕ) → i < 8192 → get_or (overwritten first at page) i 0 ≡ get_or b i 0
  gate_kept i low = overwritten-outside first at page second_fits i (inl (omega (arith, low))) ∙ overwritten-outside b 8192 log first_fits i (inl low)

  area_is : take meta.log (drop 8192 (overwritten first at page)) ≡ log
  area_is =
      part_kept first at page 8192 meta.log second_fits (inl (omega arith))
      ∙ ap (λ (n : ℕ). take n (drop 8192 first)) (sym log_long)
      ∙ overwritten-reads b 8192 log first_fits

  page_is : take PAGE (drop at (overwritten first at page)) ≡ page
  page_is = ap (λ (n : ℕ). take n (drop at (overwritten first at page))) (sym long) ∙ overwritten-reads first at page second_fits

  front_kept : take 8192 (drop 0 (overwritten first at page)) ≡ take 8192 (drop 0 b)
  front_kept = part_kept first at page 0 8192 second_fits (inl (omega arith)) ∙ part_kept b 8192 log 0 8192 first_fits (inl (omega arith))

  pub laid_out : HasEmptyPlaces b → IsLaidOut (overwritten first at page) meta page
  laid_out empty = record {
    places = record {
      first = gate_kept 0 (omega arith) ∙ empty.first;
      second = gate_kept 4096 (omega arith) ∙ empty.second;
      no_body = HasNoBody-elsewhere b (overwritten first at page) 1 front_kept empty.no_body;
    };
    log = (let here : log_start 0 meta ≡ 8192 = omega arith in ap (λ (n : ℕ). take meta.log (drop n (overwritten first at page))) here) ∙ area_is;
    there = (let here : page_offset meta 1 ≡ at = omega arith in ap (λ (n : ℕ). take PAGE (drop n (overwritten first at page))) here) ∙ page_is;
  }

-- with the superblock in front the bytes are a new file, and nothing else is left
module _ (d : DiskModel) (is_disk : IsDisk d) (meta : Meta) (page c : List ℕ) (frame : List ℕ) (short : length frame ≡ 41) (fits : file_size meta ≤ length c) (one : meta.high ≡ 1)
    (laid : IsLaidOut c meta page) (told : d.told ≡ Some (overwritten c 0 frame)) (newest : IfSome d.told (λ e. IsNewest e 0 meta))
    (durable : IfSome d.told (λ b. (e : List ℕ) → d.Image e → e ≡ b)) where
  abbrev e : List ℕ
  e = overwritten c 0 frame

  frame_fits : 0 + length frame ≤ length c
  frame_fits = omega (arith, short, fits)

  e_long : length e ≡ length c
  e_long = length-overwritten c 0 frame frame_fits

  log_is : log_bytes 0 meta e ≡ replicate meta.log 0
  log_is = part_kept c 0 frame (log_start 0 meta) meta.log frame_fits (inr (omega (arith, short))) ∙ laid.log

  there : place_bytes meta 1 e ≡ page
  there = part_kept c 0 frame (page_offset meta 1) PAGE frame_fits (inr (omega (arith, short))) ∙ laid.there

  is_newest : IsNewest e 0 meta
  is_newest = at_value d.told (λ x. IsNewest x 0 meta) e told newest

  only : (x : List ℕ) → d.Image x → x ≡ e
  only = at_value d.told (λ b. (x : List ℕ) → d.Image x → x ≡ b) e told durable

  spelled : (p : Page) → SpellsPage page p → (id : ℕ) (q : Page) → page_of (lone meta p) id ≡ Some q → SpellsPage (place_bytes meta id e) q
  spelled p spells id q is =
      let alone = page_alone p id q is in
      let Q : Page → Type 0 = λ x. SpellsPage (place_bytes meta id e) x in
      let I : ℕ → Type 0 = λ n. SpellsPage (place_bytes meta n e) p in
      let B : List ℕ → Type 0 = λ l. SpellsPage l p in
      subst Q alone.1 (subst I (sym alone.0) (subst B (sym there) spells))

  pub made_fresh : (p : Page) → SpellsPage page p → IsFresh d 0 meta (lone meta p)
  made_fresh p spells = record {
    told = has_value d.told e told;
    meta_is = refl;
    newest = λ x image. let Q : List ℕ → Type 0 = λ l. IsNewest l 0 meta in subst Q (sym (only x image)) is_newest;
    images = λ x image. let Q : List ℕ → Type 0 = λ l. OpensTo l (lone meta p) in subst Q (sym (only x image)) (record {
      turn = 0;
      said = meta;
      payloads = [];
      groups = [];
      by = opens_fresh e 0 meta (lone meta p) is_newest (omega (arith, e_long, fits)) log_is refl (sym one) (spelled p spells);
    });
    running = record {
      places = IsSynced-durable d 0 8192 durable;
      no_body = λ b is.
          let same : e ≡ b = same_Some e b (sym told ∙ is) in
          let Q : List ℕ → Type 0 = λ l. HasNoBody l 1 in
          subst Q same (HasNoBody-same c e 1 (part_kept c 0 frame 4097 40 frame_fits (inr (omega (arith, short)))) laid.places.no_body);
      logged = record {
        synced = IsSynced-durable d (log_start 0 meta) meta.log durable;
        payloads_fit = λ i x lt. absurd (omega (arith, lt));
        count = refl;
        reads = of_value d.told (λ b. range (log_start 0 meta) meta.log b ≡ [] ++ replicate (meta.log - 0) 0) e told
            (log_is ∙ ap (λ (n : ℕ). replicate n 0) (let none : meta.log ≡ meta.log - 0 = omega arith in none));
      };
    };
    pages = λ id q is x image. let Q : List ℕ → Type 0 = λ l. SpellsPage (place_bytes meta id l) q in subst Q (sym (only x image)) (spelled p spells id q is);
  }

-- what holds on success, of a result that is no error
pub no_error : {T E : Type 0} (r : Result T E) (P : Type 0) → is_err r ≡ false → OnOk r P → P
no_error (Ok v) P fine h = h
no_error (Err e) P fine h = absurd (let never : true ≡ false = fine in cc)
