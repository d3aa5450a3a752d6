use Rattle.extremes.proofs.NamedFiles.{stand-named, stops-named}
use Rattle.extremes.proofs.commands.daily_files.Goals as goal

-- the files are those that are named
pub returns-clause-stand : goal.returns-clause-stand
returns-clause-stand g c =
    stand-named _ _ _ c.args.named.now _ _ c.path_of-list.ensures c.deref.ensures.value _ c.name_files.ensures.stand

-- or naming stops
pub returns-clause-stopped : goal.returns-clause-stopped
returns-clause-stopped g c =
    stops-named _ _ _ c.args.named.now _ _ c.path_of-list.ensures c.deref.ensures.value _ c.name_files.ensures.stopped
