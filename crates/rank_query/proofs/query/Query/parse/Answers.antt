use Rattle.rank_query.proofs.Cited.{ap, ◌∙◌, query_text, read_query}
use Rattle.rank_query.proofs.Spellings.{spelling_read}
use Rattle.rank_query.proofs.CanonicalTexts.{canonical}
use Rattle.rank_query.proofs.FaultPlaces.{if_fault_stands}
use Rattle.rank_query.proofs.FaultKinds.{if_fault_kind}
use Rattle.rank_query.proofs.ReadAsked.{if_read}
use Rattle.rank_query.proofs.query.Query.parse.Goals as goal

-- what is read is spelt so, what spells a query is read as it, and an error is where no query goes on
pub returns : goal.returns
returns c = record {
  read = c.query_of_text.ensures;
  spelt = if_read c.args.text.now _ c.query_of_text.ensures;
  only = λ q asked spelling short. c.query_of_text.ensures ∙ spelling_read c.args.text.now q asked spelling short;
  canonical = λ q asked e.
      let it = canonical q asked in
      c.query_of_text.ensures ∙ ap read_query e ∙ spelling_read (query_text q) q asked it.spells it.line.short;
  fault = if_fault_stands c.args.text.now _ c.query_of_text.ensures;
  kind = if_fault_kind c.args.text.now _ c.query_of_text.ensures;
}
