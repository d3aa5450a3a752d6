use Rattle.extremes.proofs.PartsRead.{merges-memory}
use Rattle.extremes.proofs.files.merge_files.Goals as goal

-- there is no room for the reports and certificates
pub returns-in_default-clause-merges : goal.returns-in_default-clause-merges
returns-in_default-clause-merges g c = merges-memory _ _ _ _ _
