-- Texts that are put piece by piece, and the pages of a file one by one.
use Rattle.std.proofs.Common.{◌≡◌, ℕ, zero, suc, ◌+◌, List, [], ◌∷◌, ◌++◌, drop, slice_get, Option, Some, Result, IsErr, Ok, Err, refl, sym, ap, subst, ◌∙◌, arith}
use Rattle.std.proofs.lemmas.Bool.{false≢true}
use Rattle.hb_frag.specs.declared.pages.Page.{Page}
use Rattle.hb_ops.specs.Files.{FileState, page_at}
use Rattle.hb_ops.proofs.Facts.PageNumberLaws.{page_at-suc}
use Rattle.hb_outside.specs.Streams.{Appends, AppendsFront}
use Rattle.hb_outside.proofs.Facts.PutLaws.{Appends-both, Appends-front, Appends-none, AppendsFront-longer}
use Rattle.hb_map.specs.Map.{page_text, pages_text, parents_of}
use Rattle.hb_map.specs.Mapping.{PutsText}

-- what was put is a front of it and more
pub front_put : (a b : Option (List ℕ)) (p q : List ℕ) → Appends a b p → AppendsFront a b (p ++ q)
front_put a b p q put = (p, (q, refl), put)

-- a text behind one that was put
pub puts_behind : {T E : Type 0} (r : Result T E) (a b c : Option (List ℕ)) (p q : List ℕ) → Appends a b p → PutsText q r b c → PutsText (p ++ q) r a c
puts_behind (Ok x) a b c p q put more = record { done = Appends-both a b c p q put more.done; tried = tt }
puts_behind (Err e) a b c p q put more = record { done = tt; tried = Appends-front a b c p q put more.tried }

-- where a call stopped, a front was put
pub stopped : {T E : Type 0} (r : Result T E) (a b : Option (List ℕ)) (whole : List ℕ) → IsErr r → AppendsFront a b whole → PutsText whole r a b
stopped (Ok x) a b whole bad front = absurd (false≢true bad)
stopped (Err e) a b whole bad front = record { done = tt; tried = front }

-- of what goes on with what was put before, and with a front of the next piece
pub longer_front : (a b c : Option (List ℕ)) (p q rest whole : List ℕ) → p ++ (q ++ rest) ≡ whole → Appends a b p → AppendsFront b c q → AppendsFront a c whole
longer_front a b c p q rest whole is put tried = subst (AppendsFront a c) is (Appends-front a b c p (q ++ rest) put (AppendsFront-longer b c q rest tried))

pub none_put : (a : Option (List ℕ)) (whole : List ℕ) → AppendsFront a a whole
none_put a whole = front_put a a [] whole (Appends-none a)

-- the pages from a place on begin with the one there
pages_from : (pages : List Page) (place : ℕ) (page : Page) → slice_get pages place ≡ Some page → drop place pages ≡ page ∷ drop (suc place) pages
pages_from [] place page there = absurd (let no : ⊥ = cc in no)
pages_from (x ∷ rest) zero page there = let same : x ≡ page = cc in ap (λ (y : Page). y ∷ rest) same
pages_from (x ∷ rest) (suc place) page there = pages_from rest place page there

pub next_page : (pages : List Page) (place : ℕ) (page : Page) → page_at pages (place + 1) ≡ Some page → drop place pages ≡ page ∷ drop (place + 1) pages
next_page pages place page there =
    let next : place + 1 ≡ suc place = omega arith in
    let here : slice_get pages place ≡ Some page = sym (page_at-suc pages place) ∙ ap (page_at pages) (sym next) ∙ there in
    pages_from pages place page here ∙ ap (λ (n : ℕ). page ∷ drop n pages) (sym next)

-- and so does their text
pub next_text : (s : FileState) (place : ℕ) (page : Page) → page_at s.pages (place + 1) ≡ Some page →
    pages_text s.pages (place + 1) (drop place s.pages) ≡ page_text (place + 1) (parents_of (place + 1) s.pages) page ++ pages_text s.pages (place + 1 + 1) (drop (place + 1) s.pages)
next_text s place page there = ap (pages_text s.pages (place + 1)) (next_page s.pages place page there)
