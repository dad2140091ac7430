-- What follows for what was read.
use Rattle.std.proofs.Common.{◌≡◌, ℕ, zero, suc, ◌<◌, ◌+◌, ◌*◌, cond, List, [], ◌∷◌, length, drop, Some, None, Result, Ok, Err, ltb, refl, sym, ap, ◌∙◌, inl, inr, ◌⊎◌, arith}
use Rattle.std.specs.Prelude.{IfOk}
use Rattle.byteorder.specs.Endian.{big_number}
use Rattle.hb_space.specs.Boxes.{Area}
use Rattle.hb_frag.specs.declared.pages.Page.{Page}
use Rattle.hb_frag.specs.Grammar.{HasSpelling, SpellsPage}
use Rattle.hb_page_codec.specs.declared.errors.PageError.{PageError}
use Rattle.hb_page_codec.specs.declared.errors.PageError.TheVariants as errors
use Rattle.hb_page_codec.specs.Memory.{Wants, IsSomeCount, IsCutOrRecords, BeginsWithMany}
use Rattle.hb_page_codec.specs.Reading.{Gives, number_at}
use Rattle.hb_page_codec.specs.ReadingFields.{count_at, area_at}
use Rattle.hb_page_codec.specs.ReadingPages.{head_at, page_of_bytes}
use Rattle.hb_page_codec.specs.Weight.{IsLight}
use Rattle.hb_page_codec.proofs.Facts.Fields.{area_takes}
use Rattle.hb_page_codec.proofs.Facts.PageLaws.{page_takes, page_again, has_spelling, head_takes}
use Rattle.hb_page_codec.proofs.Facts.Weights.{is_light}
use Rattle.hb_lemmas.proofs.Booleans.{unless_some}
use Rattle.std.proofs.lemmas.Option.{same_Some}
use Rattle.hb_page_codec.specs.Exact.{AreBytes}
use Rattle.hb_lemmas.proofs.Options.{bind_some}

pub is_found : (bytes : List ℕ) (r : Result Page PageError) → AreBytes bytes → Gives (λ x. x) r (page_of_bytes bytes) → IfOk r (λ page. SpellsPage bytes page)
is_found bytes (Ok page) fits given = page_takes bytes page fits given
is_found bytes (Err e) fits given = tt

pub is_light_page : (bytes : List ℕ) (r : Result Page PageError) → AreBytes bytes → Gives (λ x. x) r (page_of_bytes bytes) → IfOk r (λ page. IsLight page)
is_light_page bytes (Ok page) fits given = is_light bytes page (page_takes bytes page fits given)
is_light_page bytes (Err e) fits given = tt

pub is_writable : (bytes : List ℕ) (r : Result Page PageError) → AreBytes bytes → Gives (λ x. x) r (page_of_bytes bytes) → IfOk r (λ page. HasSpelling page)
is_writable bytes (Ok page) fits given = (has_spelling page).1 (bytes, page_takes bytes page fits given)
is_writable bytes (Err e) fits given = tt

pub is_only : (bytes : List ℕ) (r : Result Page PageError) (page : Page) → Gives (λ x. x) r (page_of_bytes bytes) → SpellsPage bytes page → (r ≡ Ok page) ⊎ (r ≡ Err errors.NoMemory)
is_only bytes (Ok found) page given s = inl (ap Ok (same_Some found page (sym given ∙ page_again bytes page s)))
is_only bytes (Err errors.BadPage) page given s = let same : None ≡ Some page = sym given ∙ page_again bytes page s in absurd cc
is_only bytes (Err errors.NoMemory) page given s = inr refl

-- what an exit hands on
pub wants_then : (e : PageError) (p q : Type 0) → Wants e p → (p → q) → Wants e q
wants_then errors.BadPage p q h f = tt
wants_then errors.NoMemory p q h f = f h

-- a count above 0 isn't spelled by zeros
some_number : (bytes : List ℕ) (count : ℕ) (rest : List ℕ) → number_at 2 bytes ≡ Some (count, rest) → 0 < count → IsSomeCount bytes
some_number [] count rest e lt = tt
some_number (zero ∷ []) count rest e lt = tt
some_number (zero ∷ zero ∷ more) count rest e lt =
    let g = unless_some (ltb (length (0 ∷ 0 ∷ more)) 2) (Some (big_number 2 (0 ∷ 0 ∷ more), drop 2 (0 ∷ 0 ∷ more))) (count, rest) e in
    let none : big_number 2 (0 ∷ 0 ∷ more) ≡ count = ap (λ (x : ℕ × List ℕ). x.0) (same_Some (big_number 2 (0 ∷ 0 ∷ more), drop 2 (0 ∷ 0 ∷ more)) (count, rest) g.1) in
    absurd (omega (arith, none))
some_number (zero ∷ suc b ∷ more) count rest e lt = tt
some_number (suc a ∷ more) count rest e lt = tt

pub some_count : (k : ℕ) (bytes : List ℕ) (count : ℕ) (rest : List ℕ) → count_at k bytes ≡ Some (count, rest) → 0 < count → IsSomeCount bytes
unfolding count_at
some_count k bytes count rest e lt =
    let a = bind_some (number_at 2 bytes) (λ n. cond (ltb (length n.1) (n.0 * (8 * k + 1))) None (Some n)) (count, rest) e in
    let g = unless_some (ltb (length a.0.1) (a.0.0 * (8 * k + 1))) (Some a.0) (count, rest) a.2 in
    some_number bytes count rest (a.1 ∙ g.1) lt

-- the front of a live page
pub begins : (bytes : List ℕ) (level k : ℕ) (behind : List ℕ) (area : Area) (rest : List ℕ) → AreBytes bytes → head_at bytes ≡ Some (level, k, behind) → area_at k behind ≡ Some (area, rest) → IsCutOrRecords rest → BeginsWithMany (1 ∷ bytes)
begins bytes level k behind area rest fits h a root =
    let head = head_takes bytes (level, k, behind) fits h in
    let taken = area_takes k behind (area, rest) head.some head.few head.rest_fits a in
    record {
      level = level;
      area = area;
      rest = rest;
      is_area = taken.2;
      front = ap (λ (xs : List ℕ). 1 ∷ xs) head.parts ∙ ap (λ (n : ℕ). 1 ∷ level ∷ n ∷ 0 ∷ behind) (sym taken.1) ∙ ap (λ (xs : List ℕ). 1 ∷ level ∷ length area.lo ∷ 0 ∷ xs) taken.0.parts;
      root = root;
    }
