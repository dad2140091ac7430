use Rattle.std.proofs.Common.{List, sym, ap, length, ℕ, ◌∙◌}
use Rattle.hb_ops.proofs.Facts.Corners.{few_values, front_fits, front_length, room_length, same_box}
use Rattle.hb_ops.proofs.local.is_cut.Goals as goal
use Rattle.hb_lemmas.proofs.Lists.{front_copied}

pub slice_bounds-lo-end : goal.slice_bounds-lo-end
slice_bounds-lo-end c = few_values _ _ c.values-count.ensures.value c.values-count.ensures.point

pub slice_bounds-copy_from_slice-end : goal.slice_bounds-copy_from_slice-end
slice_bounds-copy_from_slice-end c = sym (room_length _ _ c.values-count.ensures.value c.values-count.ensures.point)

pub copy_from_slice-requires : goal.copy_from_slice-requires
copy_from_slice-requires c =
    let lo = c.values-count.ensures.value ∙ c.lo.ensures.value ∙ sym (c.values.ensures.value ∙ c.lo-2.ensures.value) in
    room_length _ _ c.values-count.ensures.value c.values-count.ensures.point ∙ ap (λ (l : List ℕ). length l) lo

pub slice_bounds-hi-end : goal.slice_bounds-hi-end
slice_bounds-hi-end c = few_values _ _ c.values-count.ensures.value c.values-count.ensures.point

pub slice_bounds-copy_from_slice-end-2 : goal.slice_bounds-copy_from_slice-end-2
slice_bounds-copy_from_slice-end-2 c = sym (room_length _ _ c.values-count.ensures.value c.values-count.ensures.point)

pub copy_from_slice-requires-2 : goal.copy_from_slice-requires-2
copy_from_slice-requires-2 c =
    let count = ap (λ (l : List ℕ). length l) (c.values-count.ensures.value ∙ c.lo.ensures.value) in
    let hi = ap (λ (l : List ℕ). length l) (c.values-2.ensures.value ∙ c.hi.ensures.value) in
    room_length _ _ c.values-count.ensures.value c.values-count.ensures.point ∙ count ∙ c.lo.ensures.area.same ∙ sym hi

pub slice_bounds-lo-end-2 : goal.slice_bounds-lo-end-2
slice_bounds-lo-end-2 c =
    let count = ap (λ (l : List ℕ). length l) (c.values-count.ensures.value ∙ c.lo.ensures.value) in
    front_fits _ _ c.args.page.now.area.lo _ count (c.copy_from_slice.ensures.after ∙ c.values.ensures.value ∙ c.lo-2.ensures.value)

pub slice_bounds-all_cut-end : goal.slice_bounds-all_cut-end
slice_bounds-all_cut-end c =
    let count = ap (λ (l : List ℕ). length l) (c.values-count.ensures.value ∙ c.lo.ensures.value) in
    front_length _ _ c.args.page.now.area.lo _ count (c.copy_from_slice.ensures.after ∙ c.values.ensures.value ∙ c.lo-2.ensures.value)

pub slice_bounds-hi-end-2 : goal.slice_bounds-hi-end-2
slice_bounds-hi-end-2 c =
    let count = ap (λ (l : List ℕ). length l) (c.values-count.ensures.value ∙ c.lo.ensures.value) ∙ c.lo.ensures.area.same in
    front_fits _ _ c.args.page.now.area.hi _ count (c.copy_from_slice-2.ensures.after ∙ c.values-2.ensures.value ∙ c.hi.ensures.value)

pub slice_bounds-all_cut-end-2 : goal.slice_bounds-all_cut-end-2
slice_bounds-all_cut-end-2 c =
    let count = ap (λ (l : List ℕ). length l) (c.values-count.ensures.value ∙ c.lo.ensures.value) ∙ c.lo.ensures.area.same in
    front_length _ _ c.args.page.now.area.hi _ count (c.copy_from_slice-2.ensures.after ∙ c.values-2.ensures.value ∙ c.hi.ensures.value)

pub all_cut-requires : goal.all_cut-requires
all_cut-requires c =
    let lo = c.copy_from_slice.ensures.after ∙ c.values.ensures.value ∙ c.lo-2.ensures.value in
    let hi = c.copy_from_slice-2.ensures.after ∙ c.values-2.ensures.value ∙ c.hi.ensures.value in
    let count = ap (λ (l : List ℕ). length l) (c.values-count.ensures.value ∙ c.lo.ensures.value) in
    sym (front_length _ _ c.args.page.now.area.lo _ count lo) ∙ front_length _ _ c.args.page.now.area.hi _ (count ∙ c.lo.ensures.area.same) hi

pub returns : goal.returns
returns c =
    let lo = c.copy_from_slice.ensures.after ∙ c.values.ensures.value ∙ c.lo-2.ensures.value in
    let hi = c.copy_from_slice-2.ensures.after ∙ c.values-2.ensures.value ∙ c.hi.ensures.value in
    let count = ap (λ (l : List ℕ). length l) (c.values-count.ensures.value ∙ c.lo.ensures.value) in
    let area = c.lo.ensures.area in
    same_box c.args.page.now.frag c.args.page.now.area _ _ c.all_cut.result
    (front_copied _ _ c.args.page.now.area.lo _ count lo) (front_copied _ _ c.args.page.now.area.hi _ (count ∙ area.same) hi) c.all_cut.ensures.cut
