-- The laws over runs. Assumes nothing.
use Rattle.protocol.specs.Runs.{LawsOfRuns}
use Rattle.promises.proofs.RunMarks.{prior_latest, since_latest}
use Rattle.promises.proofs.RunStarts.{starting_over}
use Rattle.promises.proofs.RunTimes.{first_attempt, retries, generations}

pub laws_of_runs : LawsOfRuns
laws_of_runs = record { starting_over = starting_over; prior = prior_latest; since = since_latest; first_attempt = first_attempt; retries = retries; generations = generations }
