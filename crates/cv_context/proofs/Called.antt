-- The calls that sites are, one by one.
use Rattle.std.proofs.Common.{◌≡◌, ℕ, zero, suc, ◌+◌, ◌<◌, List, [], ◌∷◌, ◌++◌, length, drop, get_or, map, sym, ap, subst, ◌∙◌, append_assoc, arith}
use Rattle.std.proofs.lemmas.List.{drop_more, length-map, map-append}
use Rattle.std.proofs.lemmas.List.Elements.{All-append}
use Rattle.std.specs.List.{All}
use Rattle.cv_pool.specs.KindTree.{KindTree}
use Rattle.cv_match_terms.specs.declared.patterns.site.Site.{Site}
use Rattle.cv_context.specs.nodes.Calls.{IsLive}
use Rattle.cv_context.specs.declared.nodes.calls.Call.{Call}
use Rattle.cv_context.specs.Roles.{reads_at, reads_of}

pub one_same : (trees : List KindTree) (ss : List Site) (k : ℕ) (d : Site) (done now : List Call) (c : Call) → k < length ss → map (reads_at trees) done ++ map (reads_of trees) (drop k ss) ≡ map (reads_of trees) ss
    → reads_at trees c ≡ reads_of trees (get_or ss k d) → now ≡ done ++ c ∷ [] → map (reads_at trees) now ++ map (reads_of trees) (drop (k + 1) ss) ≡ map (reads_of trees) ss
one_same trees ss k d done now c l i e f =
    let rest : List (ℕ × _) = map (reads_of trees) (drop (k + 1) ss) in
    ap (λ cs. map (reads_at trees) cs ++ rest) f
    ∙ ap (λ rs. rs ++ rest) (map-append (reads_at trees) done (c ∷ []))
    ∙ append_assoc (map (reads_at trees) done) (reads_at trees c ∷ []) rest
    ∙ ap (λ r. map (reads_at trees) done ++ r ∷ rest) e
    ∙ ap (λ rs. map (reads_at trees) done ++ rs) (sym (ap (map (reads_of trees)) (drop_more ss k d l)))
    ∙ i

pub one_live : (n : ℕ) (done now : List Call) (c : Call) → All (IsLive n) done → IsLive n c → now ≡ done ++ c ∷ [] → All (IsLive n) now
one_live n done now c e p f = subst (All (IsLive n)) (sym f) (All-append (IsLive n) done (c ∷ []) e single)
  where
    single : All (IsLive n) (c ∷ [])
    single zero d l = p
    single (suc k) d l = absurd (omega arith)

-- there are as many
pub as_many : (trees : List KindTree) (cs : List Call) (ss : List Site) → map (reads_at trees) cs ≡ map (reads_of trees) ss → length cs ≡ length ss
as_many trees cs ss e = sym (length-map cs (reads_at trees)) ∙ ap length e ∙ length-map ss (reads_of trees)
