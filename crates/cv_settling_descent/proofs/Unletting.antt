-- Games without an assignment that is hardly read, or short.
use Rattle.std.proofs.Common.{◌≡◌, ℕ, ◌+◌, ◌<◌, ◌≤◌, ◌==◌, ◌||◌, ◌⊎◌, inl, inr, Bool, true, false, cond, not, List, [], ◌∷◌, ◌++◌, Option, Some, None, is_some, refl, sym, ap, ap₂, subst, ◌∙◌, arith, nat_lt, eqb-true, eq-eqb, ltb-true, ltb-false}
use Rattle.std.specs.Prelude.{option_map}
use Rattle.std.proofs.lemmas.Bool.{both_ways, and_parts}
use Rattle.cv_syntax_trees.specs.declared.head.Head.{Head}
use Rattle.cv_syntax_trees.specs.declared.head.Head.TheVariants.{Branch, Call, In, Key, Leaf, Let, New, Read}
use Rattle.cv_syntax_trees.specs.declared.sites.sort.Sort.TheVariants.{BelowParameter, OfType}
use Rattle.cv_syntax_trees.specs.Declarations.{Declaration}
use Rattle.cv_syntax_trees.specs.Head.{weight}
use Rattle.cv_syntax_trees.specs.Tree.{Tree, Empty, Node, first_place, second_place, size}
use Rattle.cv_syntax_trees.specs.sites.Sites.{first_index, first_of}
use Rattle.cv_syntax_trees.proofs.lists.Tests.{or_cases}
use Rattle.cv_meaning_chances.specs.unread.Dropping.{reads_none}
use Rattle.cv_scope_rules.specs.Context.{Context, cell_of, first_position, second_position}
use Rattle.cv_scope_rules.specs.Made.{made_by}
use Rattle.cv_scope_rules.specs.Phrases.{Body, Inputs, IsWellFormed, Phrase, Term, is_phrase}
use Rattle.cv_scope_rules.specs.Scope.{is_variable}
use Rattle.cv_scope_rules.specs.Sites.{Variable}
use Rattle.cv_scope_rules.specs.typing.Signature.{Function, function_in}
use Rattle.cv_scope_runs.specs.Promises.{IsDefinition, after_site, definitions_in}
use Rattle.cv_scope_runs.proofs.Games.{Game, has_parts, stands_phrase}
use Rattle.cv_scope_runs.proofs.Rows.{placed, position_of}
use Rattle.cv_scope_runs.proofs.Standing.{Stands, first_below, in_first, in_second, root, second_below, stands_definition}
use Rattle.cv_scene.specs.Large.{is_large}
use Rattle.cv_scene.specs.Scenes.{Scene, part_at}
use Rattle.cv_scene.specs.Sights.{variable_of}
use Rattle.cv_scene.specs.Terms.{is_game}
use Rattle.cv_steps.specs.Changes.{only, without}
use Rattle.cv_steps.specs.Rows.{unlet_row}
use Rattle.cv_steps.specs.Steps.{Cost, Leads}
use Rattle.cv_steps.specs.Unletting.{Assignment, assigned_in, is_listed, only_assignment, with_term, without_assignment}
use Rattle.cv_steps_laws.proofs.Keeping.{IsGame, game_formed}
use Rattle.cv_steps_laws.proofs.Unletted.{only_site, unlet_leads}
use Rattle.cv_steps_derivations.proofs.unletting.Puts.{IsPut, puts}
use Rattle.cv_steps_derivations.proofs.unletting.Reach.{plain}
use Rattle.cv_steps_derivations.proofs.unletting.Sites.{OneDefinition, only_definition, part_there}
use Rattle.cv_settling_rules.specs.Assignments as settling
use Rattle.cv_settling_rules.specs.Assignments.{assignment_by, assignment_of, is_hardly_read, is_short, term_of_let}
use Rattle.cv_settling_rules.specs.Measure.{is_of_large, large_equalities, lowers}
use Rattle.cv_settling_rules.specs.Variables.{reads_of}
use Rattle.cv_settling_measures.proofs.Agreeing.{SitesAre, typed_game_sites}
use Rattle.cv_settling_measures.proofs.Dropping.{equalities_definition, size_definition, unread_without}
use Rattle.cv_settling_measures.proofs.Equalities.{is_large_term}
use Rattle.cv_settling_measures.proofs.Names.{Stays, lower_by}
use Rattle.cv_settling_measures.proofs.Nodes.{AllNodes, IsIn, in_first as first_in, in_second as second_in, itself, node_of, nodes_in, parts_of_all}
use Rattle.cv_settling_measures.proofs.Sites.{site_sort, sites_without, sort_of_site}
use Rattle.cv_settling_descent.specs.Reads.{AreReadsOf}
use Rattle.cv_settling_descent.proofs.Fitting.{IsFitting, game_fits, is_reading, none_in_reading}
use Rattle.cv_settling_descent.proofs.Orphans.{any, scoped_game}
use Rattle.cv_settling_descent.proofs.Putting.{definition_put, paid, paid_less, paid_nothing, paid_once, paid_reads, put_equalities, put_sites, put_size, reads_of_cell, term_untouched}
use Rattle.cv_settling_descent.proofs.Refused.{names_there}

-- where the variable is defined

made_weight : (x : ℕ) (h : Head) (a : Tree) → made_by h a (Variable x) ≡ true → weight h ≡ 1
made_weight x (New y T) a e = refl
made_weight x (Let y T) a e = refl
made_weight x (Key y) a e = refl
made_weight x (Call y l) a e = refl
made_weight x (In c) a e = refl
made_weight x Branch a e = refl
made_weight x h a e = absurd (both_ways false refl e)

module _ (ds : List Declaration) (game : Tree) (x : ℕ) (d : Assignment) (fine : Game (any ds) (is_variable game) game) (one : OneDefinition game x d) where
  -- it is a `let`
  record HasLet (t : Tree) : Type 0 where
    of_type : ℕ
    process : Tree
    there : IsIn (Node (Let x of_type) d.term process) t
    position : ℕ
    phrase : Phrase
    above : Context
    stands : Stands game position phrase above (Node (Let x of_type) d.term process)

  let_there : {p : ℕ} {σ : Phrase} {Γ : Context} {h : Head} {a b : Tree} → Stands game p σ Γ (Node h a b) → made_by h a (Variable x) ≡ true → HasLet (Node h a b)
  let_there {p = p} {σ = σ} {Γ = Γ} {h = h} {a = a} {b = b} st m =
      at_let h a b st m (ap assigned_in (sym (part_there game p σ Γ h a b st (made_weight x h a m)) ∙ ap (part_at game) (ap (λ (z : ℕ × Context). z.0) there)) ∙ one.assigned)
    where
      alone : (z : ℕ × Context) → IsDefinition z ((one.place, one.known) ∷ []) → z ≡ (one.place, one.known)
      alone z (inl i) = i
      alone z (inr i) = absurd i

      there : (let z : ℕ × Context = (p, after_site h a b Γ) in z) ≡ (one.place, one.known)
      there = alone (p, after_site h a b Γ) (subst (IsDefinition (p, after_site h a b Γ)) one.one (stands_definition game x p σ Γ h a b st m))

      at_let : (h : Head) (a b : Tree) → Stands game p σ Γ (Node h a b) → made_by h a (Variable x) ≡ true → assigned_in (Node h a b) ≡ Some d.term → HasLet (Node h a b)
      at_let (Let y T) a b st m e =
          let term : a ≡ d.term = cc in
          let same : y ≡ x = sym (eqb-true x y m) in
          let z : (let t : Tree = Node (Let y T) a b in t) ≡ Node (Let x T) d.term b = ap₂ (λ v n. Node (Let v T) n b) same term in
          record { of_type = T; process = b; there = subst (λ t. IsIn t (Node (Let y T) a b)) z itself; position = p; phrase = σ; above = Γ; stands = subst (Stands game p σ Γ) z st }
      at_let h a b st m e = absurd (cc)

  let_where : (t : Tree) {p : ℕ} {σ : Phrase} {Γ : Context} → Stands game p σ Γ t → (definitions_in x (position_of σ) Γ p t ≡ [] → ⊥) → HasLet t
  unfolding definitions_in
  let_where Empty st n = absurd (n refl)
  let_where (Node h a b) {p = p} {σ = σ} {Γ = Γ} st n =
      let q = has_parts σ h a b (stands_phrase (any ds) (is_variable game) game fine st) in
      let w = placed σ q.0.0 q.0.1 h q.1 in
      go (made_by h a (Variable x)) refl (definitions_in x (first_position (position_of σ) h) (first_below σ h Γ) (first_place p h) a) (definitions_in x (second_position (position_of σ) h) (second_below σ h a Γ) (second_place p h a) b) n
      (λ k. let_where a (in_first q.1 st) (λ i. k (ap (λ v. definitions_in x v (first_below σ h Γ) (first_place p h) a) w.0 ∙ i)))
      (λ k. let_where b (in_second q.1 st) (λ i. k (ap (λ v. definitions_in x v (second_below σ h a Γ) (second_place p h a) b) w.1 ∙ i)))
    where
      first : HasLet a → HasLet (Node h a b)
      first l = record { of_type = l.of_type; process = l.process; there = first_in l.there; position = l.position; phrase = l.phrase; above = l.above; stands = l.stands }

      second : HasLet b → HasLet (Node h a b)
      second l = record { of_type = l.of_type; process = l.process; there = second_in l.there; position = l.position; phrase = l.phrase; above = l.above; stands = l.stands }

      go : (v : Bool) → made_by h a (Variable x) ≡ v → (ds es : List (ℕ × Context)) → (cond v ((p, after_site h a b Γ) ∷ []) [] ++ (ds ++ es) ≡ [] → ⊥)
          → ((ds ≡ [] → ⊥) → HasLet a) → ((es ≡ [] → ⊥) → HasLet b) → HasLet (Node h a b)
      go true m ds es n k l = let_there st m
      go false m [] es n k l = second (l n)
      go false m (r ∷ ds) es n k l = first (k (λ z. absurd (cc)))

  the_let : HasLet game
  the_let = let_where game root (λ i. absurd (let z : (one.place, one.known) ∷ [] ≡ [] = sym one.one ∙ i in cc))

-- it is read at its own indices

pub reads_at_definition : (ds : List Declaration) (game : Tree) (x : ℕ) (d : Assignment) → IsWellFormed ds game → only_assignment game x ≡ Some d → is_listed x game ≡ false → AreReadsOf x (cell_of d.behind.replications x) game
reads_at_definition ds game x d w e free = reads_of_cell (record { declarations = ds; known = λ y. false; game = game }) x d w (only_definition game x d e) free Inputs game root

-- what the strategy looks at is what the step takes

same_let : (t : Tree) → term_of_let t ≡ assigned_in t
same_let (Node (Let x T) m b) = refl
same_let t = refl

looked_at : (d : Assignment) → settling.Assignment
looked_at d = record { term = d.term; replications = d.behind.replications }

pub same_assignment : (game : Tree) (x : ℕ) (d : Assignment) → only_assignment game x ≡ Some d → assignment_of game x ≡ Some (record { term = d.term; replications = d.behind.replications })
same_assignment game x d e =
    let r = only_site game x d e in
    ap (assignment_by game) r.1 ∙ ap (option_map (λ m. record { term = m; replications = d.behind.replications })) (same_let (part_at game r.0) ∙ r.2)

-- a cell of a variable of a large type

cell_large : (s : Scene) (x T : ℕ) → site_sort x s.game ≡ Some (OfType T) → is_large s T ≡ true → (rs : List (ℕ × ℕ)) → is_large_term s (cell_of rs x) ≡ true
cell_large s x T e l [] =
    ap (λ R. is_of_large s (first_of R (first_of (option_map (λ (f : Function). OfType f.result) (function_in s.declarations x)) (option_map BelowParameter (first_index x s.game))))) (sort_of_site x [] s.game ∙ e) ∙ l
cell_large s x T e l (r ∷ rs) = ap (is_of_large s) (sort_of_site x [] s.game ∙ e) ∙ l

-- either case

term_of_let_there : (σ : Phrase) (x T : ℕ) (m b : Tree) → is_phrase σ (Node (Let x T) m b) ≡ true → is_phrase Term m ≡ true
unfolding is_phrase
term_of_let_there Body x T m b e = (and_parts (is_phrase Term m) _ e).0
term_of_let_there σ x T m b e = absurd (both_ways false refl e)

read_of : (t : Tree) → is_some (variable_of t) ≡ true → is_reading t ≡ true
read_of (Node (Leaf x) a b) e = refl
read_of (Node (Read x) a b) e = refl
read_of t e = e

module _ (s : Scene) (x : ℕ) (d : Assignment) (i : IsGame s.declarations s.game) (there : is_game s.declarations s.game ≡ true) (single : only_assignment s.game x ≡ Some d) (free : is_listed x s.game ≡ false) where
  abbrev game : Tree
  game = s.game

  abbrev cell : Tree
  cell = cell_of d.behind.replications x

  abbrev fine : Game (any s.declarations) (is_variable s.game) s.game
  fine = scoped_game s.declarations s.game i.formed

  one : OneDefinition s.game x d
  one = only_definition s.game x d single

  definition : HasLet s.declarations s.game x d fine one s.game
  definition = the_let s.declarations s.game x d fine one

  fits : AllNodes (IsFitting s) s.game
  fits = game_fits s i.formed.phrase (names_there s.declarations s.game there) i.typed

  of_let : AllNodes (IsFitting s) (Node (Let x definition.of_type) d.term definition.process)
  of_let = nodes_in (IsFitting s) (Node (Let x definition.of_type) d.term definition.process) s.game definition.there fits

  sort_of_let : site_sort x s.game ≡ Some (OfType definition.of_type)
  sort_of_let =
      node_of (SitesAre (λ y. site_sort y s.game)) (Let x definition.of_type) d.term definition.process
      (nodes_in (SitesAre (λ y. site_sort y s.game)) (Node (Let x definition.of_type) d.term definition.process) s.game definition.there (typed_game_sites s.declarations s.game i.typed))
      x (OfType definition.of_type) (ap (λ v. cond v (Some (OfType definition.of_type)) None) (eq-eqb x x refl))

  fit : is_large_term s d.term ≡ true → is_large_term s cell ≡ true
  fit l = cell_large s x definition.of_type sort_of_let (node_of (IsFitting s) (Let x definition.of_type) d.term definition.process of_let l) d.behind.replications

  put : IsPut (any s.declarations) s.game x d fine i.formed.phrase one free Inputs s.game
  put = puts (any s.declarations) s.game x d fine i.formed.phrase one free Inputs s.game root

  abbrev full : Tree
  full = with_term x d s.game

  same_next : without (only x) full ≡ without_assignment x d s.game
  same_next = put.dropped

  unread : reads_none (only x) (without (only x) full) ≡ true
  unread = unread_without x (only x) full put.unread

  stays : (y : ℕ) (v : Bool) → (x == y) ≡ v → Stays s (without (only x) full) y ⊎ (reads_none (only y) (without (only x) full) ≡ true)
  stays y true e = inr (subst (λ z. reads_none (only z) (without (only x) full) ≡ true) (eqb-true x y e) unread)
  stays y false e = inl (sites_without x y e Inputs full put.phrase ∙ put_sites s x d i.formed one free y Inputs s.game root)

  -- the whole with the term for each read, and without the definition

  full_size : size full + paid x (size cell) s.game ≡ size s.game + paid x (size d.term) s.game
  full_size = put_size s x d i.formed one free Inputs s.game root

  full_equalities : large_equalities s full ≤ large_equalities s s.game + paid x (large_equalities s d.term) s.game
  full_equalities = put_equalities s x d i.formed one free fit Inputs s.game root

  in_full : IsIn (Node (Let x definition.of_type) d.term (with_term x d definition.process)) full
  in_full =
      subst (λ m. IsIn (Node (Let x definition.of_type) m (with_term x d definition.process)) full)
      (term_untouched s x d i.formed one free d.term definition.of_type definition.process definition.stands refl)
      (definition_put s x d i.formed one free definition.of_type d.term definition.process Inputs s.game root definition.there)

  next_size : size (without (only x) full) + size d.term < size full
  next_size = size_definition (only x) (Let x definition.of_type) d.term (with_term x d definition.process) (eq-eqb x x refl) full in_full

  next_equalities : large_equalities s (without (only x) full) + large_equalities s d.term ≤ large_equalities s full
  next_equalities = equalities_definition s (only x) (Let x definition.of_type) d.term (with_term x d definition.process) (eq-eqb x x refl) Inputs full put.phrase in_full

  abbrev IsLower : Type 0
  IsLower = (large_equalities s (without (only x) full) ≤ large_equalities s s.game) × (size (without (only x) full) < size s.game)

  hardly : is_hardly_read s.game x ≡ true → IsLower
  hardly e =
      let few : reads_of s.game x < 2 = ltb-true (reads_of s.game x) 2 (and_parts (nat_lt (reads_of s.game x) 2) _ e).0 in
      let once : paid x 1 s.game < 2 = omega (arith, few, paid_reads s x d i.formed one free Inputs s.game root) in (
        omega (arith, full_equalities, next_equalities, paid_once x (large_equalities s d.term) s.game once),
        omega (arith, full_size, next_size, paid_once x (size d.term) s.game once),
      )

  short : is_short x (record { term = d.term; replications = d.behind.replications }) ≡ true → IsLower
  short e =
      let p = and_parts (is_some (variable_of d.term)) _ e in
      let none : large_equalities s d.term ≡ 0 = none_in_reading s d.term (term_of_let_there definition.phrase x definition.of_type d.term definition.process (plain (any s.declarations) s.game x d fine i.formed.phrase one free definition.stands)) (parts_of_all (IsFitting s) (Let x definition.of_type) d.term definition.process of_let).0 (read_of d.term p.0) in
      let less : size d.term ≤ size cell = small (nat_lt (size cell) (size d.term)) refl p.1 in (
        omega (arith, full_equalities, next_equalities, ap (λ k. paid x k s.game) none, paid_nothing x s.game),
        omega (arith, full_size, next_size, paid_less x (size d.term) (size cell) less s.game),
      )
    where
      small : (v : Bool) → nat_lt (size cell) (size d.term) ≡ v → not v ≡ true → size d.term ≤ size cell
      small true f g = absurd (both_ways false refl g)
      small false f g = ltb-false (size cell) (size d.term) f

  pub lower : (is_hardly_read s.game x || is_short x (record { term = d.term; replications = d.behind.replications })) ≡ true → lowers s (without (only x) full) ≡ true
  lower e =
      lower_by s (without (only x) full) (λ y. stays y (x == y) refl)
      (inr (elim (or_cases (is_hardly_read s.game x) (is_short x (record { term = d.term; replications = d.behind.replications })) e) [ inl f ↦ hardly f | inr f ↦ short f ]))

pub unlet_lowers : (s : Scene) (x : ℕ) (next : Tree) (cost : Cost) (a : settling.Assignment) → is_game s.declarations s.game ≡ true → unlet_row s x ≡ Leads next cost → assignment_of s.game x ≡ Some a → (is_hardly_read s.game x || is_short x a) ≡ true → lowers s next ≡ true
unlet_lowers s x next cost a g e f c =
    let r = unlet_leads s x next cost e in
    let i = game_formed s.declarations s.game g in
    let same : a ≡ (let z : settling.Assignment = record { term = r.assignment.term; replications = r.assignment.behind.replications } in z) = let k = sym f ∙ same_assignment s.game x r.assignment r.defined in some_same a _ k in
    subst (λ t. lowers s t ≡ true) (same_next s x r.assignment i g r.defined r.unlisted ∙ r.leads)
    (lower s x r.assignment i g r.defined r.unlisted (ap (λ z. is_hardly_read s.game x || is_short x z) (sym same) ∙ c))
  where
    some_same : (a b : settling.Assignment) → ◌≡◌ {A = Option settling.Assignment} (Some a) (Some b) → a ≡ b
    some_same a b e = cc
