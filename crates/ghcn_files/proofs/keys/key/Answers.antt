use Rattle.ghcn_files.proofs.keys.key.Goals as goal

-- an ID is eleven bytes
pub returns-clause-bytes : goal.returns-clause-bytes
returns-clause-bytes c = (c.told-id, c.fits-id)
