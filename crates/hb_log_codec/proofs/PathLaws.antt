-- Paths and cuts are read exactly.
use Rattle.std.proofs.Common.{◌≡◌, ℕ, zero, suc, ◌^◌, ◌<◌, List, [], ◌∷◌, ◌++◌, length, map, All, Some, refl, sym, ap, subst, ◌∙◌, append_assoc}
use Rattle.std.specs.List.{flat_map, AllByRecursion}
use Rattle.std.proofs.lemmas.List.Elements.{All-from_recursion, recursion_from_All}
use Rattle.hb_lemmas.specs.Numbers.{big_endian}
use Rattle.hb_frag.specs.declared.paths.Side.{Side}
use Rattle.hb_frag.specs.declared.paths.Side.TheVariants.{Left, Right}
use Rattle.hb_ops.specs.declared.leaf_cuts.LeafCut.{LeafCut}
use Rattle.hb_page_codec.specs.Exact.{AreBytes, IsExact}
use Rattle.hb_page_codec.specs.Reading.{byte_at, many_at, number_at}
use Rattle.hb_log_codec.specs.Groups.{FitsLeafCut, cuts_bytes, leaf_cut_bytes, path_bytes, side_byte}
use Rattle.hb_log_codec.specs.Fields.{cuts_at, leaf_cut_at, path_at, side_at}
use Rattle.hb_log_codec.specs.ExactFields.{ExactFields}
use Rattle.hb_log_codec.proofs.FieldLaws.{taken}
use Rattle.hb_page_codec.proofs.Facts.Fields.{Takes-then, many_take, many_again}
use Rattle.std.proofs.lemmas.Option.{same_Some}
use Rattle.hb_lemmas.proofs.Options.{bind_some}
use Rattle.hb_lemmas.specs.Options.{◌>>=◌}

-- a side's byte, as a list
abbrev pub one_side : Side → List ℕ
one_side side = side_byte side ∷ []

abbrev pub AnySide : Side → Type 0
AnySide side = Unit {0}

side_takes : (bytes : List ℕ) (x : Side × List ℕ) → side_at bytes ≡ Some x → bytes ≡ one_side x.0 ++ x.1
side_takes [] x e = absurd cc
side_takes (zero ∷ rest) x e = subst (λ (y : Side × List ℕ). zero ∷ rest ≡ one_side y.0 ++ y.1) (same_Some (Left, rest) x e) refl
side_takes (suc zero ∷ rest) x e = subst (λ (y : Side × List ℕ). suc zero ∷ rest ≡ one_side y.0 ++ y.1) (same_Some (Right, rest) x e) refl
side_takes (suc (suc b) ∷ rest) x e = absurd cc

side_again : (side : Side) (rest : List ℕ) → side_at (one_side side ++ rest) ≡ Some (side, rest)
side_again Left rest = refl
side_again Right rest = refl

pub side_exact : IsExact side_at one_side AnySide
side_exact = record {
  takes = λ bytes x fits e. (side_takes bytes x e, tt);
  again = λ x rest fits. side_again x rest;
}

-- one byte each is a list of bytes
sides_flat : (path : List Side) → flat_map one_side path ≡ map side_byte path
sides_flat [] = refl
sides_flat (side ∷ path) = ap (λ (t : List ℕ). side_byte side ∷ t) (sides_flat path)

any_sides : (path : List Side) → AllByRecursion AnySide path
any_sides [] = tt
any_sides (side ∷ path) = (tt, any_sides path)

module _ (f : ExactFields) where
  path_takes : (bytes : List ℕ) (x : List Side × List ℕ) → AreBytes bytes → path_at bytes ≡ Some x → (bytes ≡ path_bytes x.0 ++ x.1) × (length x.0 < 2 ^ 8)
  unfolding path_at
  path_takes bytes x fits e =
      let a = bind_some (byte_at bytes) (λ count. many_at side_at count.0 count.1) x e in
      let count = taken byte_at (λ b. b ∷ []) (λ b. b < 2 ^ 8) f.byte bytes a.0 fits a.1 in
      let steps = many_take side_at one_side AnySide (taken side_at one_side AnySide side_exact) a.0.0 a.0.1 x count.0.rest_fits a.2 in
      let both = Takes-then bytes (a.0.0 ∷ []) a.0.1 (flat_map one_side x.0) x.1 count.0 steps.0 in
      let spelled : (a.0.0 ∷ []) ++ flat_map one_side x.0 ≡ path_bytes x.0 = (λ i. sym steps.1 i ∷ sides_flat x.0 i) in
      (both.parts ∙ ap (λ (t : List ℕ). t ++ x.1) spelled, subst (λ (n : ℕ). n < 2 ^ 8) (sym steps.1) count.1)

  path_again : (path : List Side) (rest : List ℕ) → path_at (path_bytes path ++ rest) ≡ Some (path, rest)
  unfolding path_at
  path_again path rest = ap (λ (t : List ℕ). many_at side_at (length path) (t ++ rest)) (sym (sides_flat path)) ∙ many_again side_at one_side AnySide side_exact.again path rest (any_sides path)

  pub path_exact : IsExact path_at path_bytes (λ path. length path < 2 ^ 8)
  path_exact = record { takes = path_takes; again = λ path rest fits. path_again path rest }

  cut_takes : (bytes : List ℕ) (x : LeafCut × List ℕ) → AreBytes bytes → leaf_cut_at bytes ≡ Some x → (bytes ≡ leaf_cut_bytes x.0 ++ x.1) × FitsLeafCut x.0
  unfolding leaf_cut_at
  cut_takes bytes x fits e =
      let a = bind_some (byte_at bytes) (λ axis. number_at 8 axis.1 >>= λ value. side_at value.1 >>= λ side. Some (record { axis = axis.0; value = value.0; side = side.0 }, side.1)) x e in
      let b = bind_some (number_at 8 a.0.1) (λ value. side_at value.1 >>= λ side. Some (record { axis = a.0.0; value = value.0; side = side.0 }, side.1)) x a.2 in
      let c = bind_some (side_at b.0.1) (λ side. Some (record { axis = a.0.0; value = b.0.0; side = side.0 }, side.1)) x b.2 in
      let axis = taken byte_at (λ b. b ∷ []) (λ b. b < 2 ^ 8) f.byte bytes a.0 fits a.1 in
      let value = taken (number_at 8) (big_endian 8) (λ n. n < 256 ^ 8) f.number_8 a.0.1 b.0 axis.0.rest_fits b.1 in
      let side = taken side_at one_side AnySide side_exact b.0.1 c.0 value.0.rest_fits c.1 in
      let made : LeafCut × List ℕ = (record { axis = a.0.0; value = b.0.0; side = c.0.0 }, c.0.1) in
      let behind = Takes-then a.0.1 (big_endian 8 b.0.0) b.0.1 (one_side c.0.0) c.0.1 value.0 side.0 in
      let whole = Takes-then bytes (a.0.0 ∷ []) a.0.1 (big_endian 8 b.0.0 ++ one_side c.0.0) c.0.1 axis.0 behind in
      subst (λ (y : LeafCut × List ℕ). (bytes ≡ leaf_cut_bytes y.0 ++ y.1) × FitsLeafCut y.0) (same_Some made x c.2) (whole.parts, record { axis = axis.1; value = value.1 })

  cut_again : (cut : LeafCut) (rest : List ℕ) → FitsLeafCut cut → leaf_cut_at (leaf_cut_bytes cut ++ rest) ≡ Some (cut, rest)
  unfolding leaf_cut_at
  cut_again cut rest fits =
      ap (λ (t : List ℕ). leaf_cut_at (cut.axis ∷ t)) (append_assoc (big_endian 8 cut.value) (one_side cut.side) rest)
      ∙ rw (f.number_8.again cut.value (one_side cut.side ++ rest) fits.value, side_again cut.side rest) refl

  pub leaf_cut_exact : IsExact leaf_cut_at leaf_cut_bytes FitsLeafCut
  leaf_cut_exact = record { takes = cut_takes; again = cut_again }

  -- cuts of which there are few enough
  abbrev pub FewCuts : List LeafCut → Type 0
  FewCuts cuts = (length cuts < 2 ^ 8) × All FitsLeafCut cuts

  cuts_takes : (bytes : List ℕ) (x : List LeafCut × List ℕ) → AreBytes bytes → cuts_at bytes ≡ Some x → (bytes ≡ cuts_bytes x.0 ++ x.1) × FewCuts x.0
  unfolding cuts_at
  cuts_takes bytes x fits e =
      let a = bind_some (byte_at bytes) (λ count. many_at leaf_cut_at count.0 count.1) x e in
      let count = taken byte_at (λ b. b ∷ []) (λ b. b < 2 ^ 8) f.byte bytes a.0 fits a.1 in
      let cuts = many_take leaf_cut_at leaf_cut_bytes FitsLeafCut (taken leaf_cut_at leaf_cut_bytes FitsLeafCut leaf_cut_exact) a.0.0 a.0.1 x count.0.rest_fits a.2 in
      let both = Takes-then bytes (a.0.0 ∷ []) a.0.1 (flat_map leaf_cut_bytes x.0) x.1 count.0 cuts.0 in
      let spelled : (a.0.0 ∷ []) ++ flat_map leaf_cut_bytes x.0 ≡ cuts_bytes x.0 = ap (λ (n : ℕ). n ∷ flat_map leaf_cut_bytes x.0) (sym cuts.1) in
      (both.parts ∙ ap (λ (t : List ℕ). t ++ x.1) spelled, (subst (λ (n : ℕ). n < 2 ^ 8) (sym cuts.1) count.1, All-from_recursion FitsLeafCut x.0 cuts.2))

  cuts_again : (cuts : List LeafCut) (rest : List ℕ) → All FitsLeafCut cuts → cuts_at (cuts_bytes cuts ++ rest) ≡ Some (cuts, rest)
  unfolding cuts_at
  cuts_again cuts rest fits = many_again leaf_cut_at leaf_cut_bytes FitsLeafCut leaf_cut_exact.again cuts rest (recursion_from_All FitsLeafCut cuts fits)

  pub cuts_exact : IsExact cuts_at cuts_bytes FewCuts
  cuts_exact = record { takes = cuts_takes; again = λ cuts rest fits. cuts_again cuts rest fits.1 }
