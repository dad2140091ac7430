use Rattle.std.proofs.Common.{◌++◌, List, ℕ, length, take, drop, reverse, sym, subst, ◌∙◌}
use Rattle.std.proofs.lemmas.List.{take_at}
use Rattle.hb_disk.specs.declared.event.Event.{Event}
use Rattle.hb_disk.specs.Events.{rewound, IsPicked, IsImage, IsImageSince}
use Rattle.hb_disk.proofs.history.History.image.Goals as goal

-- what is said of the image that is chosen in the copy holds of the bytes that were copied
of_copy : (c : goal.After-bytes-3-1) (P : List ℕ → List Event → List ℕ → Type 0) → P c.deref_mut.result.now c.deref-2.result.now c.choose_before.new.bytes
    → P c.args.self.now.bytes.items c.args.self.now.events.items (take c.in_ok-bytes.bytes.len (c.choose_before.new.bytes ++ drop (length c.choose_before.new.bytes) c.in_ok-bytes.bytes.items))
of_copy c P h =
    let new = c.choose_before.new.bytes in
    let same = c.deref_mut.ensures.value ∙ c.in_ok-bytes.ensures.items_if_clones_equal (λ x y e. e) ∙ c.deref.ensures.value in
    subst (λ (l : List ℕ). P c.args.self.now.bytes.items c.args.self.now.events.items l) (sym (take_at new (drop (length new) c.in_ok-bytes.bytes.items) c.in_ok-bytes.bytes.len (c.choose_before.auto.bytes ∙ c.deref_mut.ensures.len)))
    (subst (λ (es : List Event). P c.args.self.now.bytes.items es new) c.deref-2.ensures.value
    (subst (λ (l : List ℕ). P l c.deref-2.result.now new) same h))

pub returns-clause-picked : goal.returns-clause-picked
returns-clause-picked c = of_copy c (λ b es l. let moment = rewound c.args.before b (reverse es) in IsPicked c.args.pick moment.0 moment.1 l) c.choose_before.ensures.picked

pub returns-clause-image : goal.returns-clause-image
returns-clause-image c = of_copy c (λ b es l. let moment = rewound c.args.before b (reverse es) in IsImage moment.0 moment.1 l) c.choose_before.ensures.image

pub returns-clause-since : goal.returns-clause-since
returns-clause-since c = of_copy c (λ b es l. IsImageSince 0 b (reverse es) l) c.choose_before.ensures.since
