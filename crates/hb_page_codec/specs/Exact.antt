-- Readers that are exact: what they give is what was spelled, and what was spelled is read again.
use Rattle.std.specs.Prelude.{◌≡◌, ◌↔◌, ℕ, ◌^◌, ◌<◌, ◌≤◌, List, ◌∷◌, [], ◌++◌, length, get_or, All, Option, Some}
use Rattle.hb_space.specs.Boxes.{IsArea}
use Rattle.hb_space.specs.declared.form.TheConstants.{KMAX}
use Rattle.hb_frag.specs.declared.pages.Page.{Page}
use Rattle.hb_frag.specs.Grammar.{FitsRecord, SpellsPage, point_bytes, record_bytes}
use Rattle.hb_lemmas.specs.Numbers.{big_endian}
use Rattle.hb_page_codec.specs.Reading.{byte_at, number_at}
use Rattle.hb_page_codec.specs.ReadingFields.{area_at, point_at, record_at}
use Rattle.hb_page_codec.specs.ReadingPages.{page_of_bytes}

-- each number of the list is a byte
abbrev pub AreBytes : List ℕ → Type 0
AreBytes bytes = (i : ℕ) → get_or bytes i 0 < 256

pub record IsExact {A : Type 0} (read : List ℕ → Option (A × List ℕ)) (spell : A → List ℕ) (Fits : A → Type 0) : Type 0 where
  pub takes : (bytes : List ℕ) (x : A × List ℕ) → AreBytes bytes → read bytes ≡ Some x → (bytes ≡ spell x.0 ++ x.1) × Fits x.0
  pub again : (x : A) (rest : List ℕ) → Fits x → read (spell x ++ rest) ≡ Some (x, rest)

-- bytes, and numbers of four and of eight bytes
abbrev pub BytesAreExact : Type 0
BytesAreExact = IsExact byte_at (λ b. b ∷ []) (λ b. b < 2 ^ 8)

abbrev pub NumbersAreExact : ℕ → Type 0
NumbersAreExact width = IsExact (number_at width) (big_endian width) (λ n. n < 256 ^ width)

-- points, boxes and records of k attributes
abbrev pub PointsAreExact : Type 0
PointsAreExact = (k : ℕ) → IsExact (point_at k) point_bytes (λ p. (length p ≡ k) × All (λ x. x < 2 ^ 64) p)

abbrev pub BoxesAreExact : Type 0
BoxesAreExact = (k : ℕ) → 0 < k → k ≤ KMAX → IsExact (area_at k) (λ a. point_bytes a.lo ++ point_bytes a.hi) (λ a. IsArea a × (length a.lo ≡ k))

abbrev pub RecordsAreExact : Type 0
RecordsAreExact = (k : ℕ) → IsExact (record_at k) record_bytes (FitsRecord k)

-- what bytes are read as is the page that they spell
abbrev pub PagesAreExact : Type 0
PagesAreExact = (bytes : List ℕ) (page : Page) → AreBytes bytes → (page_of_bytes bytes ≡ Some page) ↔ SpellsPage bytes page
