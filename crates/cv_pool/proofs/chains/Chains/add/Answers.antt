use Rattle.std.proofs.Common.{◌≡◌, ◌<◌, ◌+◌, ◌++◌, ◌∷◌, [], ap, sym, ◌∙◌, subst, length, arith, get_or}
use Rattle.std.proofs.Math.ListN.{set, length-set}
use Rattle.std.specs.Result.{is_ok}
use Rattle.std.specs.Prelude.{if◌then◌else◌}
use Rattle.cv_pool.specs.Bucket.{bucket}
use Rattle.cv_pool.specs.Chain.{AreLinked, bucket_at, no_entry}
use Rattle.cv_pool.proofs.Chaining.{any_default, linked_more}
use Rattle.cv_pool.proofs.chains.Chains.add.Goals as goal

pub returns-clause-linked : goal.returns-clause-linked
returns-clause-linked c =
    let heads = c.args.self.now.heads.items in
    let nexts = c.args.self.now.nexts.items in
    let nodes = c.args.nodes.now in
    let b = c.bucket_of-bucket.result in
    let n = c.len-next.result in
    let f = bucket_at (length heads) nodes in
    let below : b < length heads = omega arith in
    let size : c.len.result ≡ length heads = omega arith in
    let last : n ≡ length nexts = omega arith in
    let here : b ≡ f n = c.bucket_of-bucket.ensures.value ∙ ap (λ m. bucket m (get_or nodes n no_entry)) size in
    let head : c.index.result.now ≡ get_or heads b 0 = c.index.ensures ∙ any_default heads b c.index.result.now 0 below in
    let items : c.push.new.self.items ≡ nexts ++ get_or heads b 0 ∷ [] =
    c.push.ensures.items ∙ (ap (λ r. if is_ok r then nexts ++ c.index.result.now ∷ [] else nexts) c.unwrap.ensures ∙ ap (λ x. nexts ++ x ∷ []) head) in
    let more = linked_more f heads nexts b n last here below c.requires.linked in
    subst (λ xs. AreLinked (bucket_at (length (set heads b (n + 1))) nodes) (set heads b (n + 1)) xs) (sym items) (subst (λ m. AreLinked (bucket_at m nodes) (set heads b (n + 1)) (nexts ++ get_or heads b 0 ∷ [])) (sym (length-set heads b (n + 1))) more)
