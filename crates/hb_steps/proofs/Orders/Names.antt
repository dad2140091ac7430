-- What the files of this folder share.
pub use Rattle.hb_activity.specs.Classes.{line_in_hand}
pub use Rattle.hb_activity.specs.Deeds.{Deed, Says, Answers, does}
pub use Rattle.hb_activity.specs.declared.activities.Activity.{Activity}
pub use Rattle.hb_consol.specs.ConsolidatorRows.{IsMergingOf}
pub use Rattle.hb_log_codec.specs.Groups.{group_bytes}
pub use Rattle.hb_ops.specs.Files.{FileState, last_of, contents_of}
pub use Rattle.hb_ops.specs.declared.operations.Op.{Op}
pub use Rattle.hb_point.specs.SessionRows.{is_answered, next_line, WantsBoxes}
pub use Rattle.hb_poster.specs.PosterRows.{IsPostingOf}
pub use Rattle.hb_set.specs.Machine.{RecordSet, reply_of, set_after, if_there}
pub use Rattle.hb_set.specs.Order.{Entry, IsLegalOrder, result_of}
pub use Rattle.hb_set.specs.declared.commands.Command.{Command}
pub use Rattle.hb_set.specs.declared.commands.Command.TheVariants.{Insert, Delete, Lookup, Search}
pub use Rattle.hb_set.specs.declared.commands.Reply.{Reply}
pub use Rattle.hb_set.specs.declared.scripts.Answered.{Answered}
pub use Rattle.hb_set.specs.declared.scripts.Line.{Line}
pub use Rattle.hb_sound.specs.Laws.{LackIsContents, StandingIsContents}
pub use Rattle.hb_sound.specs.PointWalks.{IsPointOf}
pub use Rattle.hb_space.specs.Actors.{IsActor}
pub use Rattle.hb_steps.proofs.Facts.NextLines.{next_is, same_line, IsNextOf}
pub use Rattle.hb_steps.proofs.Facts.StepKinds.{each_step, ready_kind, FlushesMore, each_kind}
pub use Rattle.hb_steps.proofs.Facts.Ways.{KeepsAllButDisk, forces_so, meets_so, stays_so, more_so}
pub use Rattle.hb_steps.proofs.Files.FitOps.{HeldArePoints}
pub use Rattle.hb_steps.proofs.Memory.KeptPages.{KeepsPages}
pub use Rattle.hb_steps.proofs.Table.LineFates.{LineFate, fate_given_up, fate_row}
pub use Rattle.hb_steps.proofs.Table.MergerMoves.{Waits}
pub use Rattle.hb_steps.proofs.TwoSteps.SinglePlaces.{stands_longer}
pub use Rattle.hb_steps.specs.Acting.{MeetsBadPage}
pub use Rattle.hb_steps.specs.Asking.{wanted_by}
pub use Rattle.hb_steps.specs.ContentsLaws.{ContentsFollowOrder, ContentsStep, contents_now}
pub use Rattle.hb_steps.specs.Forcing.{ForcesAll, StaysSo, forced_files}
pub use Rattle.hb_steps.specs.KeepingLaws.{IsAnsweredInPlace, IsAfterLonger}
pub use Rattle.hb_steps.specs.KeptLines.{LinesFit}
pub use Rattle.hb_steps.specs.KeptMachine.{MachineKeeps}
pub use Rattle.hb_steps.specs.KeptOrder.{HasLegalOrder, StandsInOrder, StandsSomewhere, FollowMarks, IsSettledIn, StandsOutside}
pub use Rattle.hb_steps.specs.KeptPlaces.{RepliesStand, AwaitsNoneOutside}
pub use Rattle.hb_steps.specs.KeptSequence.{IsInSequence, LinesInSequence, awaited_number}
pub use Rattle.hb_steps.specs.Machines.{Machine, with_disk, settled_count, Files, current_file}
pub use Rattle.hb_steps.specs.Performing.{outcome_of, Performs, MayDo, given_by, files_after, with_effect}
pub use Rattle.hb_steps.specs.Steps.{TakesJob, TakesMerging, Works, StepsTo}
pub use Rattle.hb_steps.specs.declared.outcomes.Outcome.{Outcome}
pub use Rattle.hb_store.specs.Making.{group_here}
pub use Rattle.hb_store.specs.States.{StoreState}
pub use Rattle.hb_wal.specs.Log.{IsMarkedTo, IsNoLater, LogState, Waiting, mark_of}
pub use Rattle.std.proofs.Common.{◌≡◌, inl, inr, ℕ, sym, subst, suc, zero, List, ◌∷◌, All, refl, arith, [], ◌≢◌, ◌⊎◌, ◌<◌, ◌≤◌, true, ◌++◌, Option, Some, IfSome, ap, ◌∙◌, ◌==◌, false, Bool, cond, None, length, AllPairs, get_or, append-nil, take, option_map}
pub use Rattle.std.proofs.lemmas.Bool.{false≢true, cases_Bool, eqb-true, eqb-false}
pub use Rattle.std.proofs.lemmas.List.{length-append, take_all}
pub use Rattle.std.proofs.lemmas.List.Elements.{All-head, All-tail, All-nil, All-push, All-weaker, All-append, All-cons}
pub use Rattle.std.proofs.lemmas.List.Quantifiers.{all_pairs_push}
pub use Rattle.std.proofs.lemmas.Option.{none-some, same_Some}
pub use Rattle.std.specs.List.{Contains}
pub use Rattle.std.specs.Option.{option_to_list, IsSomeAnd}
