use Rattle.hb_core.proofs.run_laws.runs_go_on.Goals as goal

pub returns : goal.returns
returns c = record {
  kept = c.machines_stay_kept.ensures.step;
  files = c.files_stay_sound.ensures;
  changes = c.steps_keep_all.ensures.steps;
  images = c.images_have_prefixes.ensures;
  opens = c.bytes_open_by_parts.ensures;
}
