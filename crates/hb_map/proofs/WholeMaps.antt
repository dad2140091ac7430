-- The whole map, of its first line and the lines of all pages.
use Rattle.std.proofs.Common.{◌≡◌, ℕ, ◌+◌, ◌<◌, Some, List, [], ◌++◌, length, drop, get_or, Option, Result, IsErr, sym, ap, subst, ◌∙◌, append_assoc}
use Rattle.hb_disk.specs.Model.{DiskModel}
use Rattle.hb_frag.specs.declared.pages.Page.{Page}
use Rattle.hb_layout.specs.declared.meta.Meta.{Meta}
use Rattle.hb_ops.specs.Files.{FileState, page_at, last_of}
use Rattle.hb_outside.specs.Streams.{Appends, AppendsFront}
use Rattle.hb_outside.proofs.Facts.PutLaws.{AppendsFront-longer}
use Rattle.hb_store.specs.Held.{StoreHeld}
use Rattle.hb_map.specs.Map.{head_text, map_text, page_text, pages_text}
use Rattle.hb_map.specs.Mapping.{AreParents, LooksThrough, OfSoundFile, PutsText}
use Rattle.hb_map.proofs.Texts.{next_text, puts_behind, stopped}
use Rattle.hb_store.specs.States.{StoreState}

module _ {F : Type 0} (d e : DiskModel) (old mid : StoreHeld) (meta : Meta) (through : LooksThrough F d e old mid) (meta_is : meta ≡ mid.state.meta) where
  -- of the file: all behind its first line
  pub whole_map : {T E : Type 0} (r : Result T E) (parents : List ℕ) (a b c : Option (List ℕ)) → OfSoundFile d old (λ s. AreParents s parents) → Appends a b (head_text meta)
      → OfSoundFile e mid (λ s. AreParents s parents → PutsText (pages_text s.pages 1 s.pages) r b c) → OfSoundFile d old (λ s. PutsText (map_text s) r a c)
  whole_map r parents a b c counted head pages durable later keeps sound =
      let s : FileState = last_of durable later in
      puts_behind r a b c (head_text s.meta) (pages_text s.pages 1 s.pages) (subst (λ (m : Meta). Appends a b (head_text m)) (meta_is ∙ ap (λ (s : StoreState). s.meta) through.rest ∙ sym keeps.memory.meta_is) head)
      (pages durable later (through.looks.keeps durable later keeps) sound (counted durable later keeps sound))

  -- or a front of its first line
  pub head_failed : {T E : Type 0} (r : Result T E) (a b : Option (List ℕ)) → IsErr r → AppendsFront a b (head_text meta) → OfSoundFile d old (λ s. PutsText (map_text s) r a b)
  head_failed r a b bad tried durable later keeps sound =
      let s : FileState = last_of durable later in
      stopped r a b (map_text s) bad
      (AppendsFront-longer a b (head_text s.meta) (pages_text s.pages 1 s.pages) (subst (λ (m : Meta). AppendsFront a b (head_text m)) (meta_is ∙ ap (λ (s : StoreState). s.meta) through.rest ∙ sym keeps.memory.meta_is) tried))

  -- and over any disk some text behind it
  pub begins_map : {T E : Type 0} (r : Result T E) (a b c : Option (List ℕ)) → Appends a b (head_text meta) → (text : List ℕ) × PutsText text r b c → (rest : List ℕ) × PutsText (head_text old.state.meta ++ rest) r a c
  begins_map r a b c head pages = (pages.0, puts_behind r a b c (head_text old.state.meta) pages.0 (subst (λ (m : Meta). Appends a b (head_text m)) (meta_is ∙ ap (λ (s : StoreState). s.meta) through.rest) head) pages.1)

  pub begins_failed : {T E : Type 0} (r : Result T E) (a b : Option (List ℕ)) → IsErr r → AppendsFront a b (head_text meta) → (rest : List ℕ) × PutsText (head_text old.state.meta ++ rest) r a b
  begins_failed r a b bad tried = ([], stopped r a b (head_text old.state.meta ++ []) bad (AppendsFront-longer a b (head_text old.state.meta) [] (subst (λ (m : Meta). AppendsFront a b (head_text m)) (meta_is ∙ ap (λ (s : StoreState). s.meta) through.rest) tried)))

-- one page more of the pages
pub page_next : (s : FileState) (place : ℕ) (page : Page) (parents so_far : List ℕ) → page_at s.pages (place + 1) ≡ Some page → AreParents s parents → place < length parents
    → so_far ++ pages_text s.pages (place + 1) (drop place s.pages) ≡ pages_text s.pages 1 s.pages
    → so_far ++ (page_text (place + 1) (get_or parents place 0) page ++ pages_text s.pages (place + 1 + 1) (drop (place + 1) s.pages)) ≡ pages_text s.pages 1 s.pages
page_next s place page parents so_far there counted low before =
    ap (λ (n : ℕ). so_far ++ (page_text (place + 1) n page ++ pages_text s.pages (place + 1 + 1) (drop (place + 1) s.pages))) (counted.each place low)
    ∙ ap (λ (t : List ℕ). so_far ++ t) (sym (next_text s place page there))
    ∙ before

pub page_behind : (s : FileState) (place : ℕ) (page : Page) (parents so_far : List ℕ) → page_at s.pages (place + 1) ≡ Some page → AreParents s parents → place < length parents
    → so_far ++ pages_text s.pages (place + 1) (drop place s.pages) ≡ pages_text s.pages 1 s.pages
    → (so_far ++ page_text (place + 1) (get_or parents place 0) page) ++ pages_text s.pages (place + 1 + 1) (drop (place + 1) s.pages) ≡ pages_text s.pages 1 s.pages
page_behind s place page parents so_far there counted low before =
    append_assoc so_far (page_text (place + 1) (get_or parents place 0) page) (pages_text s.pages (place + 1 + 1) (drop (place + 1) s.pages)) ∙ page_next s place page parents so_far there counted low before
