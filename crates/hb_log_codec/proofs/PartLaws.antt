-- A group is its parts.
use Rattle.std.proofs.Common.{ℕ, List, ◌∷◌, ◌++◌, refl, sym, ap, ◌∙◌}
use Rattle.std.proofs.lemmas.List.{append-nil}
use Rattle.hb_lemmas.specs.Numbers.{big_endian}
use Rattle.hb_log_codec.specs.Groups.{op_bytes, page_image_bytes}
use Rattle.hb_log_codec.specs.RecordGroups.{GroupsHaveParts}
use Rattle.hb_log_codec.proofs.GroupLaws.{page_bytes_spell}

pub have_parts : GroupsHaveParts
have_parts = record {
  bare = λ op. refl;
  imaged = λ id bytes page op spells.
      ap (λ (l : List ℕ). 1 ∷ l ++ op_bytes op) (append-nil (page_image_bytes (id, page)))
      ∙ ap (λ (l : List ℕ). 1 ∷ (big_endian 4 id ++ l) ++ op_bytes op) (sym (page_bytes_spell bytes page spells).0);
}
