-- The parameters of a variable's copies, one by one, and that they are few.
use Rattle.std.proofs.Common.{◌≡◌, ℕ, ◌+◌, ◌<◌, ◌≤◌, List, [], ◌∷◌, ◌++◌, drop, get_or, length, ◌⊎◌, inl, inr, Option, Some, None, option_and_then, refl, sym, ap, ◌∙◌, arith, append-nil, append_assoc, length-append}
use Rattle.std.specs.Prelude.{slice_get}
use Rattle.std.proofs.lemmas.List.{drop_all, drop_more}
use Rattle.std.proofs.lemmas.Option.{get_or_from_slice_get, slice_get_cases, slice_get_within}
use Rattle.cv_syntax_trees.specs.declared.head.Head.{Head}
use Rattle.cv_syntax_trees.specs.declared.head.Head.TheVariants.{Repl}
use Rattle.cv_syntax_trees.specs.Tree.{Tree, Empty, Node}
use Rattle.cv_syntax_trees.specs.Declarations.{Declaration}
use Rattle.cv_syntax.specs.faults.Walk.{IsObeyed}
use Rattle.cv_syntax_trees.specs.declared.sites.sort.Sort.{Sort}
use Rattle.cv_syntax_trees.specs.sites.Sites.{Variable, at_parameters, first_of, first_site, parameters_below, site_here}
use Rattle.cv_scope_rules.specs.declared.fault.Fault.TheVariants as fault
use Rattle.cv_scope_rules.specs.Context.{replications_below}
use Rattle.cv_scope_rules.specs.Rules.{Names, Obeys}
use Rattle.cv_scope_rules.specs.Scope.{IsScoped, IsScopedAt, names_of}
use Rattle.cv_scope_rules.specs.Standing.{Standing, at_root, first_standing, second_standing}
use Rattle.cv_scope_rules.proofs.Apart.{first_replications, second_replications}
use Rattle.cv_costs.specs.Copies.{parameters_by, parameters_of}

-- one by one

abbrev Asked : Option Variable → ℕ → Option ℕ
Asked o k = option_and_then (λ (v : Variable). slice_get v.parameters k) o

asked : (o : Option Variable) (k : ℕ) → Asked o k ≡ slice_get (parameters_by o) k
asked None k = refl
asked (Some v) k = refl

pub within : (o : Option Variable) (k n : ℕ) → Some n ≡ Asked o k → k < length (parameters_by o)
within o k n e = slice_get_within (parameters_by o) k n (sym (e ∙ asked o k))

pub one_more : (o : Option Variable) (k n : ℕ) (done now : List ℕ) → Some n ≡ Asked o k → done ++ drop k (parameters_by o) ≡ parameters_by o → now ≡ done ++ n ∷ [] → now ++ drop (k + 1) (parameters_by o) ≡ parameters_by o
one_more o k n done now e i f =
    ap (λ l. l ++ drop (k + 1) ps) f ∙ append_assoc done (n ∷ []) (drop (k + 1) ps)
    ∙ ap (λ l. done ++ l) (ap (λ m. m ∷ drop (k + 1) ps) (sym (get_or_from_slice_get ps k n n (sym (e ∙ asked o k)))) ∙ sym (drop_more ps k n (within o k n e)))
    ∙ i
  where
    ps : List ℕ
    ps = parameters_by o

pub none_left : (o : Option Variable) (k : ℕ) (done : List ℕ) → None ≡ Asked o k → done ++ drop k (parameters_by o) ≡ parameters_by o → done ≡ parameters_by o
none_left o k done e i = sym (append-nil done) ∙ ap (λ l. done ++ l) (sym (drop_all k ps past)) ∙ i
  where
    ps : List ℕ
    ps = parameters_by o

    past : length ps ≤ k
    past = go (slice_get_cases ps k).1
      where
        go : ((x : ℕ) × (k < length ps) × (slice_get ps k ≡ Some x) × (get_or ps k x ≡ x)) ⊎ ((length ps ≤ k) × (slice_get ps k ≡ None)) → length ps ≤ k
        go (inl h) = absurd (let f = e ∙ asked o k in let g = h.2 in cc)
        go (inr h) = h.0

-- a game in array scope has at most eight replications above a definition

below_long : (h : Head) (ps : List ℕ) (rs : List (ℕ × ℕ)) → length ps ≡ length rs → length (parameters_below h ps) ≡ length (replications_below h rs)
below_long (Repl i n) ps rs e = omega (arith, e, length-append ps (n ∷ []), length-append rs ((i, n) ∷ []))
below_long h ps rs e = e

few_at : (names : Names) (s : Standing) (x : ℕ) (ps : List ℕ) (t : Tree) → IsScopedAt names s t → length ps ≡ length s.known.replications → length (parameters_by (first_site x ps t)) ≤ 8
unfolding first_site IsObeyed
few_at names s x ps Empty i e = omega arith
few_at names s x ps (Node h a b) i e =
    let o : Obeys names s h a b fault.Replications = i.0 fault.Replications in
    let first = first_replications s.position h s.known in
    let second = second_replications s.position h a s.known in
    go (site_here x h a) (first_site x ps a) o.0
    (few_at names (first_standing s h a) x ps a i.1 (e ∙ ap length (sym first)))
    (few_at names (second_standing s h a) x (parameters_below h ps) b i.2 (below_long h ps s.known.replications e ∙ ap length (sym second)))
  where
    last : Option Variable
    last = first_site x (parameters_below h ps) b

    go : (here : Option Sort) (o : Option Variable) → length s.known.replications ≤ 8 → length (parameters_by o) ≤ 8 → length (parameters_by last) ≤ 8
        → length (parameters_by (first_of (at_parameters ps here) (first_of o last))) ≤ 8
    go (Some S) o n f l = omega (arith, n, e)
    go None (Some v) n f l = f
    go None None n f l = l

pub few_parameters : (ds : List Declaration) (game : Tree) (x : ℕ) → IsScoped ds game → length (parameters_of game x) ≤ 8
few_parameters ds game x i = few_at (names_of ds game) at_root x [] game i refl
