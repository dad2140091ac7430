use Rattle.std.proofs.Common.{Some, None, Err, refl, ap, ◌∙◌}
use Rattle.std.proofs.lemmas.Result.{err_from_is_err_and}
use Rattle.hb_ops.specs.declared.changes.ChangeError.{ChangeError}
use Rattle.hb_ops.specs.Given.{given}
use Rattle.hb_ops.specs.declared.changes.ChangeError.TheVariants.{Unfit}
use Rattle.hb_ops.specs.declared.operations.Op.TheVariants.{Put, Del, Extract, Post, Grow}
use Rattle.hb_ops.proofs.Does.{carried, refused, failed, one_tried}
use Rattle.hb_ops.proofs.changes.change.Goals as goal

pub post-requires : goal.post-requires
post-requires c = record { attributes = (rw c.in-Post.is at c.requires.points).1 }

pub returns-in-Grow : goal.returns-in-Grow
returns-in-Grow c =
    let said = c.grown.ensures in
    let w = carried c.grown.result c.args.op.now (Grow c.in-Grow.fresh c.in-Grow.free_after) c.args.meta.now c.args.first c.args.first (given c.args.second) (given c.args.third) c.in-Grow.is refl
    (record { allowed = said.allowed; effect = said.effect; unfit = said.unfit; memory = λ e. absurd (said.memory e) }) in
    record { allowed = w.allowed; effect = w.effect; unfit = w.unfit; memory = w.memory }

pub returns-in-None : goal.returns-in-None
returns-in-None c =
    let op = Put c.in-Put.id c.in-Put.rec in
    let w = carried (Err Unfit) c.args.op.now op c.args.meta.now c.args.first None (given c.args.second) (given c.args.third) c.in-Put.is c.in-None.is (refused op c.args.meta.now (given c.args.second) (given c.args.third) (λ a. a)) in
    record { allowed = w.allowed; effect = w.effect; unfit = w.unfit; memory = w.memory }

pub returns-in-None-first : goal.returns-in-None-first
returns-in-None-first c =
    let op = Del c.in-Del.id c.in-Del.point in
    let w = carried (Err Unfit) c.args.op.now op c.args.meta.now c.args.first None (given c.args.second) (given c.args.third) c.in-Del.is c.in-None-first.is (refused op c.args.meta.now (given c.args.second) (given c.args.third) (λ a. a)) in
    record { allowed = w.allowed; effect = w.effect; unfit = w.unfit; memory = w.memory }

pub returns-in-None-first-2 : goal.returns-in-None-first-2
returns-in-None-first-2 c =
    let op = Extract c.in-Extract.source c.in-Extract.fresh c.in-Extract.path c.in-Extract.cuts c.in-Extract.free_after in
    let w = carried (Err Unfit) c.args.op.now op c.args.meta.now c.args.first None (given c.args.second) (given c.args.third) c.in-Extract.is c.in-None-first-2.is (refused op c.args.meta.now (given c.args.second) (given c.args.third) (λ a. a)) in
    record { allowed = w.allowed; effect = w.effect; unfit = w.unfit; memory = w.memory }

pub returns-in-None-first-3 : goal.returns-in-None-first-3
returns-in-None-first-3 c =
    let op = Post c.in-Post.parent c.in-Post.at c.in-Post.inner c.in-Post.area in
    let w = carried (Err Unfit) c.args.op.now op c.args.meta.now c.args.first None (given c.args.second) (given c.args.third) c.in-Post.is c.in-None-first-3.is (refused op c.args.meta.now (given c.args.second) (given c.args.third) (λ a. a)) in
    record { allowed = w.allowed; effect = w.effect; unfit = w.unfit; memory = w.memory }

pub returns-in_err-pages-in-Some-first-2 : goal.returns-in_err-pages-in-Some-first-2
returns-in_err-pages-in-Some-first-2 c =
    let op = Extract c.in-Extract.source c.in-Extract.fresh c.in-Extract.path c.in-Extract.cuts c.in-Extract.free_after in
    let p = err_from_is_err_and c.from_residual.result c.from_residual.ensures.1 in
    let is = p.1 ∙ ap (λ (e : ChangeError). Err e) p.2 in
    let w = carried c.from_residual.result c.args.op.now op c.args.meta.now c.args.first (Some c.in-Some-first-2.page) (given c.args.second) (given c.args.third) c.in-Extract.is c.in-Some-first-2.is
    (failed c.from_residual.result _ op c.args.meta.now (Some c.in-Some-first-2.page.now) (given c.args.second) (given c.args.third) is c.in_err-pages-in-Some-first-2.ensures.unfit c.in_err-pages-in-Some-first-2.ensures.memory) in
    record { allowed = w.allowed; effect = w.effect; unfit = w.unfit; memory = w.memory }

pub returns-in-Some : goal.returns-in-Some
returns-in-Some c =
    let op = Put c.in-Put.id c.in-Put.rec in
    let w = carried c.one_made.result c.args.op.now op c.args.meta.now c.args.first (Some c.in-Some.page) (given c.args.second) (given c.args.third) c.in-Put.is c.in-Some.is
    (one_tried op c.args.meta.now (Some c.in-Some.page.now) (given c.args.second) (given c.args.third) c.in-Put.id c.put.result _ c.one_made.result refl
    c.put.ensures.allowed c.put.ensures.effect c.put.ensures.unfit c.put.ensures.memory c.one_made.ensures.made c.one_made.ensures.error) in
    record { allowed = w.allowed; effect = w.effect; unfit = w.unfit; memory = w.memory }

pub returns-in-Some-first : goal.returns-in-Some-first
returns-in-Some-first c =
    let op = Del c.in-Del.id c.in-Del.point in
    let w = carried c.one_made-in-Some-first.result c.args.op.now op c.args.meta.now c.args.first (Some c.in-Some-first.page) (given c.args.second) (given c.args.third) c.in-Del.is c.in-Some-first.is
    (one_tried op c.args.meta.now (Some c.in-Some-first.page.now) (given c.args.second) (given c.args.third) c.in-Del.id c.delete.result _ c.one_made-in-Some-first.result refl
    c.delete.ensures.allowed c.delete.ensures.effect c.delete.ensures.unfit c.delete.ensures.memory c.one_made-in-Some-first.ensures.made c.one_made-in-Some-first.ensures.error) in
    record { allowed = w.allowed; effect = w.effect; unfit = w.unfit; memory = w.memory }

pub returns-in-Some-first-3 : goal.returns-in-Some-first-3
returns-in-Some-first-3 c =
    let op = Post c.in-Post.parent c.in-Post.at c.in-Post.inner c.in-Post.area in
    let w = carried c.one_made-in-Some-first-3.result c.args.op.now op c.args.meta.now c.args.first (Some c.in-Some-first-3.page) (given c.args.second) (given c.args.third) c.in-Post.is c.in-Some-first-3.is
    (one_tried op c.args.meta.now (Some c.in-Some-first-3.page.now) (given c.args.second) (given c.args.third) c.in-Post.parent c.post.result _ c.one_made-in-Some-first-3.result refl
    c.post.ensures.allowed c.post.ensures.effect c.post.ensures.unfit c.post.ensures.memory c.one_made-in-Some-first-3.ensures.made c.one_made-in-Some-first-3.ensures.error) in
    record { allowed = w.allowed; effect = w.effect; unfit = w.unfit; memory = w.memory }

pub split-requires : goal.split-requires
split-requires c = c.in_ok-pages-in-Some-first-2.ensures.allowed.allocates
