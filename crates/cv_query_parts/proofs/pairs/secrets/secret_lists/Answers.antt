use Rattle.cv_query_parts.proofs.pairs.Making.{all_made}
use Rattle.cv_query_parts.proofs.pairs.secrets.secret_lists.Goals as goal

pub returns : goal.returns
returns c = all_made _ _ _ _ _ c.new-makes.result.items c.push_given.new.makes.items c.push_both_rows.new.makes.items c.push_plain.new.makes.items c.close_list.new.makes.items c.new-makes.ensures.items c.in_ok-push_given.ensures c.in_ok-push_both_rows.ensures c.in_ok-push_plain.ensures c.in_ok-close_list.ensures
