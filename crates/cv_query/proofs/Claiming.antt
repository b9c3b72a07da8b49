-- What derivations are to end with, claim by claim.
use Rattle.std.proofs.Common.{◌≡◌, ℕ, ◌+◌, ◌<◌, ◌≤◌, drop, get_or, length, Bool, true, false, ◌&&◌, not, List, [], ◌∷◌, ◌++◌, Option, Some, None, is_some, refl, sym, ap, ap₂, subst, ◌∙◌, arith}
use Rattle.std.specs.Prelude.{◌==◌, if◌then◌else◌}
use Rattle.std.proofs.lemmas.Bool.{and_parts}
use Rattle.std.proofs.lemmas.List.{drop_all, drop_more}
use Rattle.std.specs.List.{list_all}
use Rattle.std.proofs.Math.Path.{fun_ext}
use Rattle.cv_syntax_trees.specs.lists.Options.{first_of}
use Rattle.cv_syntax_trees.specs.declared.head.Head.{Head}
use Rattle.cv_syntax_trees.specs.declared.head.Head.TheVariants.{AboveRoute, AtEntry, CellRoute, Cons, Defined, DistinctPart, Eq, HoldsRoute, Leaf, NeverEntry, Pair, SecretPair, WithEntry}
use Rattle.cv_syntax_trees.specs.Tree.{Tree, Empty, Node, first}
use Rattle.cv_syntax.proofs.Trees.{tree_of_NoTree, tree_at_None}
use Rattle.cv_meaning.specs.Correspondences.{Atom, Correspondence, RightEvent, RightTerm, atom_of, leaf_names}
use Rattle.cv_query_certificates.specs.Alternatives.{atoms_of_chosen, chosen_atoms, chosen_by, number_in, routes_of}
use Rattle.cv_query_parts.specs.Alternatives.{atoms_seen}
use Rattle.cv_query_parts.specs.declared.alternatives.NumberedAtom.{NumberedAtom}
use Rattle.cv_scene.specs.lines.Ends.{is_end}
use Rattle.cv_scene.specs.lines.Given.{given_for, or_node, term_for, with_given}
use Rattle.cv_scene.specs.lines.Lines.{Holds as HoldsTerm, IsDefined, lines_of, statements, count}
use Rattle.cv_scene.specs.lines.Targets.{falsity, target}
use Rattle.cv_scene.specs.lines.Truths.{no}
use Rattle.cv_scene.specs.Derivations.{first_bad_line}
use Rattle.cv_scene.specs.Scenes.{Scene}
use Rattle.cv_scene.specs.Sights.{sight_at}
use Rattle.cv_scope_rules.specs.Context.{Context}
use Rattle.cv_query_certificates.specs.Claims.{Claim, at_place, behind_cell, claim_of, claims_of, entry_claims, equations, joined, names_of, terms_for}
use Rattle.cv_query_certificates.specs.EventNodes.{are_for, arguments_at}
use Rattle.cv_query_certificates.specs.Failures.{has_end, is_right}
use Rattle.cv_query_certificates.specs.Forms.{has_form, is_number}
use Rattle.cv_query_certificates.specs.PairParts.{behind_entries, pairs_in}
use Rattle.cv_query_entries.specs.terms.Given.{given_by, names_in, put, terms_given}
use Rattle.cv_query_entries.specs.ends.Said.{said_equal}
use Rattle.cv_query_entries.specs.Nodes.{rows_above}
use Rattle.cv_query_parts.specs.Said.{Saying, Never, Nothing, With, Way, Above, ByCell, Holds, NoWay, saying_of, way_of}
use Rattle.cv_pool.specs.KindTree.{KindTree}
use Rattle.cv_syntax.specs.PoolTrees.{tree_at}
use Rattle.cv_syntax_trees.proofs.lists.Tests.{and_true}
use Rattle.cv_query_entries.specs.declared.terms.given.Given.{Given}
use Rattle.cv_query_entries.specs.declared.terms.given.Part.{Part}
use Rattle.cv_query_entries.specs.terms.Parts.{part_tree, put_if, terms_of}
use Rattle.cv_query_parts.specs.Countable.{AreCountable, AreCountableParts, IsCountable, IsCountablePart, IsCountableSaying, derivation_by}
use Rattle.cv_query.specs.Claimed.{derived_by, ends_by, said_by}

pub ruleset claiming = (tree_of_NoTree)

-- what lines of targets say

said_equations : (ms ns : Tree) → statements (lines_of (equations ms ns)) ≡ said_equal ms ns
unfolding lines_of statements
said_equations Empty Empty = refl
said_equations Empty (Node k n ns) = refl
said_equations (Node h m ms) Empty = refl
said_equations (Node h m ms) (Node k n ns) = ap (λ us. HoldsTerm (Node Eq m n) ∷ us) (said_equations ms ns)

said_cell : (c rest : Tree) → statements (lines_of (Node Cons (Node Defined c Empty) rest)) ≡ IsDefined c ∷ statements (lines_of rest)
unfolding lines_of statements
said_cell c rest = refl

said_term : (t : Tree) → statements (lines_of (target t)) ≡ HoldsTerm t ∷ []
unfolding lines_of statements
said_term t = refl

-- a claim, by what a route says

pub claim_by : (s : Scene) (f : Tree → Tree) (c : Atom) (route : Tree) → (claim_of s f c route).by ≡ derived_by c (way_of route)
claim_by s f (RightEvent inj e ms) (Node AboveRoute q by) = refl
claim_by s f (RightEvent inj e ms) (Node CellRoute c Empty) = refl
claim_by s f (RightEvent inj e ms) (Node CellRoute c (Node h q by)) = refl
claim_by s f (RightEvent inj e ms) (Node HoldsRoute by x) = refl
claim_by s f (RightEvent inj e ms) t = refl
claim_by s f (RightTerm m) (Node AboveRoute q by) = refl
claim_by s f (RightTerm m) (Node CellRoute c Empty) = refl
claim_by s f (RightTerm m) (Node CellRoute c (Node h q by)) = refl
claim_by s f (RightTerm m) (Node HoldsRoute by x) = refl
claim_by s f (RightTerm m) t = refl

claim_said : (s : Scene) (f : Tree → Tree) (c : Atom) (route : Tree) → statements (lines_of (claim_of s f c route).targets) ≡ said_by s f c (way_of route)
claim_said s f (RightEvent inj e ms) (Node AboveRoute q by) = said_equations _ _
claim_said s f (RightEvent inj e ms) (Node CellRoute c Empty) = said_term no
claim_said s f (RightEvent inj e ms) (Node CellRoute c (Node h q by)) = said_cell c _ ∙ ap (λ us. IsDefined c ∷ us) (said_equations _ _)
claim_said s f (RightEvent inj e ms) (Node HoldsRoute by x) = said_term no
claim_said s f (RightEvent inj e ms) t = said_term no
claim_said s f (RightTerm m) (Node AboveRoute q by) = said_term no
claim_said s f (RightTerm m) (Node CellRoute c Empty) = said_term no
claim_said s f (RightTerm m) (Node CellRoute c (Node h q by)) = said_term no
claim_said s f (RightTerm m) (Node HoldsRoute by x) = said_term (f m)
claim_said s f (RightTerm m) t = said_term no

pub claim_end : (s : Scene) (p : ℕ) (f : Tree → Tree) (c : Atom) (route : Tree) → has_end s p (claim_of s f c route) ≡ ends_by s f c (way_of route)
claim_end s p f c route = ap₂ (λ by us. is_end (statements (lines_of by)) us) (claim_by s f c route) (claim_said s f c route)

pub never_end : (s : Scene) (p : ℕ) (by : Tree) → is_end (statements (lines_of by)) (HoldsTerm no ∷ []) ≡ has_end s p (record { by = by; targets = falsity })
never_end s p by = ap (is_end (statements (lines_of by))) (sym (said_term no))

-- the claims of routes, one by one

module _ (test : Claim → Bool) (s : Scene) (f : Tree → Tree) (trees : List KindTree) (xs : List NumberedAtom) (k : ℕ) (t : Tree) where
  abbrev all_from : ℕ → Tree → Bool
  all_from k t = list_all test (claims_of s f (atoms_seen trees (drop k xs)) t)

  pub no_more_claims : length xs ≤ k → true ≡ all_from k t
  no_more_claims l = sym (ap (λ ys. list_all test (claims_of s f (atoms_seen trees ys) t)) (drop_all k xs l))

  module _ (d : NumberedAtom) (l : k < length xs) where
    pub no_more_routes : t ≡ Empty → true ≡ all_from k t
    no_more_routes e = sym (ap₂ (λ ys u. list_all test (claims_of s f (atoms_seen trees ys) u)) (drop_more xs k d l) e)

    module _ (h : Head) (r rest : Tree) (e : t ≡ Node h r rest) (b : Bool) (i : b ≡ test (claim_of s f (atom_of (tree_at trees (get_or xs k d).atom)) r)) where
      one_claim : all_from k t ≡ (b && all_from (k + 1) rest)
      one_claim = ap₂ (λ ys u. list_all test (claims_of s f (atoms_seen trees ys) u)) (drop_more xs k d l) e ∙ ap (λ x. x && all_from (k + 1) rest) (sym i)

      pub bad_claim : b ≡ false → false ≡ all_from k t
      bad_claim j = sym (one_claim ∙ ap (λ x. x && all_from (k + 1) rest) j)

      pub next_claim : b ≡ true → all_from (k + 1) rest ≡ all_from k t
      next_claim j = sym (one_claim ∙ ap (λ x. x && all_from (k + 1) rest) j)

-- the tests of one claim, by what the code has of the route

pub right_by : (s : Scene) (p : ℕ) (f : Tree → Tree) (c : Atom) (r a : Tree) (w : Way) (by : Tree) (b : Bool) → c ≡ atom_of a → w ≡ way_of r → by ≡ derived_by c w → b ≡ not (is_some (first_bad_line (sight_at s p) by)) → b ≡ is_right s p (claim_of s f (atom_of a) r)
right_by s p f c r a w by b e g i j = j ∙ ap (λ t. not (is_some (first_bad_line (sight_at s p) t))) (i ∙ (ap₂ derived_by e g ∙ sym (claim_by s f (atom_of a) r)))

pub end_by : (s : Scene) (p : ℕ) (f : Tree → Tree) (c : Atom) (r a : Tree) (w : Way) (b : Bool) → c ≡ atom_of a → w ≡ way_of r → b ≡ ends_by s f c w → b ≡ has_end s p (claim_of s f (atom_of a) r)
end_by s p f c r a w b e g j = j ∙ (ap₂ (ends_by s f) e g ∙ sym (claim_end s p f (atom_of a) r))

-- the claims of an entry

abbrev pub claims_by : Scene → Correspondence → (place : ℕ) → Saying → List Claim
claims_by s q p (Never n by) = record { by = by; targets = falsity } ∷ []
claims_by s q p (With n ws choice) = claims_of s (at_place s q p ws) (chosen_atoms q.alternatives choice) (routes_of choice)
claims_by s q p Nothing = []

pub entry_claims_law : (s : Scene) (q : Correspondence) (p : ℕ) (entry : Tree) (x : Saying) → x ≡ saying_of entry → entry_claims s q p entry ≡ claims_by s q p x
entry_claims_law s q p entry x e = go entry ∙ ap (claims_by s q p) (sym e)
  where
    go : (t : Tree) → entry_claims s q p t ≡ claims_by s q p (saying_of t)
    go (Node AtEntry n (Node NeverEntry by e)) = refl
    go (Node AtEntry n (Node WithEntry ws choice)) = refl
    go (Node AtEntry n t) = refl
    go t = refl

-- what is put for the names of a query

given_same : (is : List ℕ) (ts : Tree) (h : Head) → given_by (term_for is ts) h ≡ given_for is ts h
given_same is ts (Leaf x) = refl
given_same is ts h = refl

pub put_given : (is : List ℕ) (ts t : Tree) → put (term_for is ts) t ≡ with_given is ts t
unfolding put with_given
put_given is ts Empty = refl
put_given is ts (Node h a b) = ap (λ o. or_node o h (put (term_for is ts) a) (put (term_for is ts) b)) (given_same is ts h) ∙ ap₂ (or_node (given_for is ts h) h) (put_given is ts a) (put_given is ts b)

chosen : (b : Bool) (m : Tree) (o u v : Option Tree) → o ≡ first_of u v → (if b then Some m else o) ≡ first_of (if b then Some m else u) v
chosen true m o u v e = refl
chosen false m o u v e = e

pub joined_terms : (xs : List ℕ) (ms : Tree) (ys : List ℕ) (ns : Tree) (x : ℕ) → are_for xs ms ≡ true → term_for (xs ++ ys) (joined ms ns) x ≡ first_of (term_for xs ms x) (term_for ys ns x)
joined_terms [] Empty ys ns x e = refl
joined_terms [] (Node h m ms) ys ns x e = absurd (let z : false ≡ true = e in cc)
joined_terms (y ∷ xs) Empty ys ns x e = absurd (let z : false ≡ true = e in cc)
joined_terms (y ∷ xs) (Node h m ms) ys ns x e = chosen (y == x) m (term_for (xs ++ ys) (joined ms ns) x) (term_for xs ms x) (term_for ys ns x) (joined_terms xs ms ys ns x e)

pub put_at : (s : Scene) (q : Correspondence) (p : ℕ) (ws t : Tree) → are_for q.variables (arguments_at s.game p) ≡ true → put (terms_given q.variables (arguments_at s.game p) q.others ws) t ≡ at_place s q p ws t
put_at s q p ws t e = ap (λ g. put g t) (fun_ext (λ x. sym (joined_terms q.variables (arguments_at s.game p) (names_in q.others) ws x e))) ∙ put_given (names_of q) (terms_for s p ws) t

-- and behind the only definition of a cell's variable

nothing_given : (ts t : Tree) → with_given [] ts t ≡ t
unfolding with_given
nothing_given ts Empty = refl
nothing_given ts (Node (Leaf x) a b) = ap₂ (Node (Leaf x)) (nothing_given ts a) (nothing_given ts b)
nothing_given ts (Node h a b) = ap₂ (Node h) (nothing_given ts a) (nothing_given ts b)

pub put_behind : (cell t : Tree) (o : Option (ℕ × Context)) (rows : List (ℕ × ℕ)) → rows ≡ rows_above o → put (terms_given [] Empty rows (first cell)) t ≡ behind_cell cell o t
put_behind cell t None rows e = ap (λ rs. put (terms_given [] Empty rs (first cell)) t) e ∙ (put_given [] (first cell) t ∙ nothing_given (first cell) t)
put_behind cell t (Some d) rows e = ap (λ rs. put (terms_given [] Empty rs (first cell)) t) e ∙ put_given (names_in d.1.replications) (first cell) t

module _ (trees : List KindTree) (g : Given) (p : Part) (t : Tree) (e : p.pending ≡ true) (f : tree_at trees p.node ≡ t) where
  pub pending_part : part_tree trees g p ≡ put (terms_of trees g) t
  pending_part = ap₂ (λ b u. put_if b (terms_of trees g) u) e f

  pub behind_part : (cell : Tree) (o : Option (ℕ × Context)) → g.variables ≡ None → g.arguments ≡ None → g.others.now ≡ rows_above o → tree_at trees g.terms ≡ first cell → part_tree trees g p ≡ behind_cell cell o t
  behind_part cell o i j k l =
      pending_part
      ∙ (ap (λ h. put h t) (ap₂ (λ v w. terms_given (leaf_names (tree_at trees v)) (tree_at trees w) g.others.now (tree_at trees g.terms)) i j
      ∙ (ap (λ u. terms_given (leaf_names u) u g.others.now (tree_at trees g.terms)) (tree_at_None trees)
      ∙ ap (λ u. terms_given [] Empty g.others.now u) l))
      ∙ put_behind cell t o g.others.now k)

pub put_of : (trees : List KindTree) (g : Given) (s : Scene) (q : Correspondence) (p : ℕ) (ws : Tree) → leaf_names (tree_at trees g.variables) ≡ q.variables → tree_at trees g.arguments ≡ arguments_at s.game p → g.others.now ≡ q.others → tree_at trees g.terms ≡ ws → are_for q.variables (arguments_at s.game p) ≡ true → put (terms_of trees g) ≡ at_place s q p ws
put_of trees g s q p ws i j k l m =
    ap put (ap₂ (λ xs ms. terms_given xs ms g.others.now (tree_at trees g.terms)) i j ∙ ap₂ (λ ys ns. terms_given q.variables (arguments_at s.game p) ys ns) k l)
    ∙ fun_ext (λ t. put_at s q p ws t m)

-- a derivation that is none for the atom

pub no_derivation : false ≡ is_end (statements (lines_of Empty)) (HoldsTerm no ∷ [])
unfolding lines_of statements
no_derivation = refl

-- what can be counted

none_countable : IsCountable Empty
unfolding lines_of count
none_countable = omega arith

derived_countable : (c : Atom) (w : Way) → IsCountable (derivation_by w) → IsCountable (derived_by c w)
derived_countable (RightEvent inj f ms) (Above q by) n = n
derived_countable (RightEvent inj f ms) (ByCell c q by) n = n
derived_countable (RightEvent inj f ms) (Holds by) n = none_countable
derived_countable (RightEvent inj f ms) NoWay n = none_countable
derived_countable (RightTerm m) (Above q by) n = none_countable
derived_countable (RightTerm m) (ByCell c q by) n = none_countable
derived_countable (RightTerm m) (Holds by) n = n
derived_countable (RightTerm m) NoWay n = none_countable

module _ (routes : Tree) (h : Head) (r rest : Tree) (e : routes ≡ Node h r rest) (n : AreCountable routes) where
  pub rest_countable : AreCountable rest
  rest_countable = (subst AreCountable e n).1

  pub route_countable : (c : Atom) (w : Way) (by : Tree) → w ≡ way_of r → by ≡ derived_by c w → IsCountable by
  route_countable c w by f g = subst IsCountable (sym g) (derived_countable c w (subst (λ v. IsCountable (derivation_by v)) (sym f) (subst AreCountable e n).0))

-- a pair says nothing
saying_countable : (part : Tree) → IsCountablePart part → IsCountableSaying (saying_of part)
saying_countable (Node Pair p (Node h q (Node g c by))) n = tt
saying_countable (Node SecretPair p (Node h q by)) n = tt
saying_countable part n = n

module _ (parts : Tree) (h : Head) (part more : Tree) (e : parts ≡ Node h part more) (n : AreCountableParts parts) where
  pub part_countable : IsCountableSaying (saying_of part)
  part_countable = saying_countable part (subst AreCountableParts e n).0

  pub more_countable : AreCountableParts more
  more_countable = (subst AreCountableParts e n).1

behind_countable : (ps : List ℕ) (parts : Tree) → AreCountableParts parts → AreCountableParts (behind_entries ps parts)
behind_countable [] parts n = n
behind_countable (p ∷ ps) Empty n = n
behind_countable (p ∷ ps) (Node h part more) n = behind_countable ps more n.1

pairs_countable : (parts : Tree) → AreCountableParts parts → AreCountableParts (pairs_in parts)
pairs_countable (Node h (Node DistinctPart names e) more) n = n.1
pairs_countable parts n = n

pub left_countable : (ps : List ℕ) (parts behind pairs : Tree) → behind ≡ behind_entries ps parts → pairs ≡ pairs_in behind
    → AreCountableParts parts → AreCountableParts pairs
left_countable ps parts behind pairs e f n =
    subst AreCountableParts (sym (f ∙ ap pairs_in e)) (pairs_countable (behind_entries ps parts) (behind_countable ps parts n))

-- the claims of what is said

module _ (test : Claim → Bool) (s : Scene) (q : Correspondence) (p : ℕ) (entry : Tree) (x : Saying) (e : x ≡ saying_of entry) where
  pub never_claims : (n by : Tree) (b : Bool) → x ≡ Never n by → b ≡ test (record { by = by; targets = falsity }) → b ≡ list_all test (entry_claims s q p entry)
  never_claims n by b f g = g ∙ (sym (and_true _) ∙ sym (ap (list_all test) (entry_claims_law s q p entry x e ∙ ap (claims_by s q p) f)))

  pub with_claims : (n ws choice : Tree) (m : Option ℕ) (atoms : List (ℕ × Atom)) (routes : Tree) (b : Bool) → x ≡ With n ws choice → m ≡ number_in choice → atoms ≡ atoms_of_chosen (chosen_by q.alternatives m) → routes ≡ routes_of choice
      → b ≡ list_all test (claims_of s (at_place s q p ws) atoms routes) → b ≡ list_all test (entry_claims s q p entry)
  with_claims n ws choice m atoms routes b f c a r g =
      g
      ∙ (ap₂ (λ us t. list_all test (claims_of s (at_place s q p ws) us t)) (a ∙ ap (λ o. atoms_of_chosen (chosen_by q.alternatives o)) c) r
      ∙ sym (ap (list_all test) (entry_claims_law s q p entry x e ∙ ap (claims_by s q p) f)))

  pub no_claims : x ≡ Nothing → true ≡ list_all test (entry_claims s q p entry)
  no_claims f = sym (ap (list_all test) (entry_claims_law s q p entry x e ∙ ap (claims_by s q p) f))

-- an entry with the right form has as many arguments as variables

abbrev Many : Scene → Correspondence → (place : ℕ) → Saying → Type 0
Many s q p (With n ws choice) = are_for q.variables (arguments_at s.game p) ≡ true
Many s q p x = Unit {0}

formed_many : (s : Scene) (q : Correspondence) (p : ℕ) (t : Tree) → has_form s q p t ≡ true → Many s q p (saying_of t)
formed_many s q p (Node AtEntry n (Node NeverEntry by e)) f = tt
formed_many s q p (Node AtEntry n (Node WithEntry ws choice)) f = (and_parts (are_for q.variables (arguments_at s.game p)) _ (and_parts (is_number p n) _ f).1).0
formed_many s q p (Node AtEntry n t) f = tt
formed_many s q p t f = tt

pub form_many : (s : Scene) (q : Correspondence) (p : ℕ) (entry n ws choice : Tree) (x : Saying) → x ≡ saying_of entry → x ≡ With n ws choice → has_form s q p entry ≡ true → are_for q.variables (arguments_at s.game p) ≡ true
form_many s q p entry n ws choice x e g i = subst (Many s q p) (sym e ∙ g) (formed_many s q p entry i)
