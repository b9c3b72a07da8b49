-- From the stages of reading a file to what it says, or what it is refused for.
use Rattle.std.proofs.Common.{◌≡◌, ℕ, ◌+◌, ◌-◌, ◌<◌, ◌≤◌, true, false, Bool, nat_lt, if◌then◌else◌, List, ◌∷◌, ◌++◌, length, refl, ap, ap₂, subst, sym, ◌∙◌, arith, Option, Some, None, Result, Ok, Err}
use Rattle.std.proofs.lemmas.Bool.Decides.{nat_tests}
use Rattle.std.specs.Prelude.{IsErrAnd}
use Rattle.cv_pool.specs.KindTree.{KindTree}
use Rattle.cv_syntax.specs.declared.decls.Decl.{Decl}
use Rattle.cv_syntax_trees.specs.Declarations.{Declaration}
use Rattle.cv_syntax.specs.declared.make.Make.{Make}
use Rattle.cv_syntax.specs.declared.work.BuildError.TheVariants as build
use Rattle.cv_syntax.specs.declared.work.File.{File}
use Rattle.cv_syntax.specs.Postorder.{postorder}
use Rattle.cv_syntax_trees.specs.Tree.{Tree, depth, size}
use Rattle.cv_parse_notation.specs.declared.sign.Sign.{Sign}
use Rattle.cv_parse_grammar.specs.Filled.{filled}
use Rattle.cv_parse_grammar.specs.Files.{levels, read_whole}
use Rattle.cv_parse_grammar.specs.Names.{name_fault}
use Rattle.cv_parse_grammar.specs.Whole.{built_in, content_of, outcome_of, unless}
use Rattle.cv_parse_grammar.proofs.Identities.{ids_are_distinct}
use Rattle.cv_parse_grammar.proofs.Outcome.{accepted_is_read}
use Rattle.cv_parse_terms.specs.declared.lookahead.ReadError.{ReadError}
use Rattle.cv_parse_terms.specs.declared.trail.NameUse.{NameUse}
use Rattle.cv_parse_terms.specs.declared.lookahead.ReadError.TheVariants as reading
use Rattle.cv_parse_terms.specs.Gives.{Fails, uses_of}
use Rattle.cv_parse_declarations.specs.declared.file.Reading.{Reading}
use Rattle.cv_parse_declarations.specs.Files.{IsReading}
use Rattle.cv_parse.specs.declared.error.ParseError.{ParseError}
use Rattle.cv_parse.specs.declared.error.ParseError.TheVariants.{Syntax, Nesting, NameTwice, NameUnknown, Build}
use Rattle.cv_parse.specs.Building.{Builds, Crowds, IsBuilt, Misnames}
use Rattle.cv_parse.specs.Faults.{of_read}
use Rattle.cv_parse.specs.Parsed.{Parsed, ParsesIn, Refuses, held_in, limited, of_name, of_outcome, parsed, range_of, roomed, said, sized, sized_first, weight_of}
use Rattle.cv_syntax.specs.limits.Limits.{most_depth, most_nodes}
use Rattle.cv_parse.specs.Weights.{asked, capped, parts_weight, tree_weight}
use Rattle.cv_parse.proofs.Weighing.{declared_weight_law, tree_weight_law, weight_both}
use Rattle.cv_parse.proofs.Outcomes.{back_to, refuses_on}

told_again : {ds es : List Declaration} {s r : Option (ℕ × ℕ)} {t u : Tree} → ds ≡ es → s ≡ r → t ≡ u → (let x : Result Parsed ParseError = Ok (record { declarations = ds; script = s; game = t }) in x) ≡ Ok (record { declarations = es; script = r; game = u })
told_again {es = es} {s = s} {r = r} {t = t} e f g = ap (λ ds. let x : Result Parsed ParseError = Ok (record { declarations = ds; script = s; game = t }) in x) e ∙ ap₂ (λ p q. Ok (record { declarations = es; script = p; game = q })) f g

-- an error that was passed on
pub passed_on : (limit : ℕ) (signs : List Sign) (trees : List KindTree) (list : List Decl) (r : Result File ParseError) (e : ParseError) → IsErrAnd r (λ x. x ≡ e) → Refuses e (parsed limit signs) → ParsesIn limit signs trees list r
passed_on limit signs trees list (Ok f) e i h = absurd i
passed_on limit signs trees list (Err x) e i h = subst (λ y. Refuses y (parsed limit signs)) (sym i) h

-- by the grammar
pub read_refuses : (limit : ℕ) (signs : List Sign) (e : ReadError) → Fails signs e (read_whole levels signs) → Refuses (of_read e) (parsed limit signs)
unfolding parsed
read_refuses limit signs (reading.Syntax k) h = ap (λ r. of_outcome limit (length signs) (outcome_of r)) h.1 ∙ ap (λ n. Err (Syntax n)) (back_to (length signs) k h.0)
read_refuses limit signs (reading.Nesting k) h = ap (λ r. of_outcome limit (length signs) (outcome_of r)) h.1 ∙ ap (λ n. Err (Nesting n)) (back_to (length signs) k h.0)
read_refuses limit signs reading.OutOfMemory h = tt

module _ (limit : ℕ) (signs : List Sign) (r : Reading) (d : IsReading signs r) where
  -- what is said of the file
  by_names : parsed limit signs ≡ of_outcome limit (length signs) (unless (name_fault (built_in ∷ d.uses)) d.value)
  unfolding parsed
  by_names = ap (λ x. of_outcome limit (length signs) (outcome_of x)) d.is

  pub noted : name_fault (uses_of r.uses.items) ≡ name_fault (built_in ∷ d.uses)
  noted = ap name_fault d.noted

  misnamed : (f : _) (e : ParseError) → name_fault (uses_of r.uses.items) ≡ Some f → e ≡ of_name (length signs) f → parsed limit signs ≡ Err e
  misnamed f e i j = by_names ∙ (ap (λ o. of_outcome limit (length signs) (unless o d.value)) (sym noted ∙ i) ∙ ap Err (sym j))

  -- by the rules of names
  pub names_refuse : (e : ParseError) → Misnames (length signs) (uses_of r.uses.items) e → Refuses e (parsed limit signs)
  names_refuse (Syntax k) h = misnamed h.0 (Syntax k) h.1 h.2
  names_refuse (Nesting k) h = misnamed h.0 (Nesting k) h.1 h.2
  names_refuse (NameTwice k) h = misnamed h.0 (NameTwice k) h.1 h.2
  names_refuse (NameUnknown k) h = misnamed h.0 (NameUnknown k) h.1 h.2
  names_refuse (Build (build.Full n)) h = misnamed h.0 (Build (build.Full n)) h.1 h.2
  names_refuse (Build (build.Nodes n)) h = misnamed h.0 (Build (build.Nodes n)) h.1 h.2
  names_refuse (Build (build.Depth n)) h = misnamed h.0 (Build (build.Depth n)) h.1 h.2
  names_refuse (Build build.OutOfMemory) h = tt

  pub names_refuse_at : (us : List NameUse) → us ≡ r.uses.items → (e : ParseError) → Misnames (length signs) (uses_of us) e → Refuses e (parsed limit signs)
  names_refuse_at us i e h = names_refuse e (subst (λ l. Misnames (length signs) (uses_of l) e) i h)

  -- what the file says, its limits aside
  abbrev pub content : Parsed
  content = said (length signs) (content_of d.value)

  by_limits : name_fault (uses_of r.uses.items) ≡ None → parsed limit signs ≡ limited limit content
  by_limits n = by_names ∙ ap (λ o. of_outcome limit (length signs) (unless o d.value)) (sym noted ∙ n)

  -- by the size of the game
  pub size_refuses : name_fault (uses_of r.uses.items) ≡ None → (e : ParseError) → Refuses e (sized (filled d.value.game)) → Refuses e (parsed limit signs)
  size_refuses n e h = refuses_on e (sized (filled d.value.game)) (parsed limit signs) (λ i. by_limits n ∙ ap (sized_first limit content) i) h

  by_room : name_fault (uses_of r.uses.items) ≡ None → sized (filled d.value.game) ≡ Ok tt → parsed limit signs ≡ roomed limit content
  by_room n s = by_limits n ∙ ap (sized_first limit content) s

  -- what there is to be built
  abbrev pub builds : name_fault (uses_of r.uses.items) ≡ None → (makes : List Make) → makes ≡ r.trees.items ++ postorder (filled d.value.game) → Builds r makes
  builds n makes e = record {
    file = d.value;
    hears = d.hears;
    parts = e;
    distinct = ids_are_distinct signs d.value.decls d.value.script (filled d.value.game) (accepted_is_read signs d.value.decls d.value.script (filled d.value.game) (ap outcome_of d.is ∙ ap (λ o. unless o d.value) (sym noted ∙ n)));
  }

  weighed : (makes : List Make) → makes ≡ r.trees.items ++ postorder (filled d.value.game) → parts_weight makes ≡ weight_of content
  unfolding tree_weight
  weighed makes e =
      let a = ap parts_weight e in
      let b = weight_both r.trees.items (postorder (filled d.value.game)) in
      let c = ap parts_weight d.hears.trees in
      let f = declared_weight_law d.value.decls in
      let g = tree_weight_law (filled d.value.game) in
      omega arith

  full : (need n : ℕ) → need ≡ asked (weight_of content) → limit < n → n ≡ need → roomed limit content ≡ Err (Build (build.Full need))
  full need n e l i =
      subst (λ m. (if nat_lt limit m then Err (Build (build.Full m)) else Ok content) ≡ Err (Build (build.Full need))) e
      (too_much (nat_lt limit need) (let j : limit < need = omega arith in grind (arith, nat_tests)))
    where
      too_much : (b : Bool) → b ≡ true → (if b then Err (Build (build.Full need)) else Ok content) ≡ Err (Build (build.Full need))
      too_much true j = refl
      too_much false j = absurd (cc)

  room : (need : ℕ) → need ≡ asked (weight_of content) → need ≤ limit → roomed limit content ≡ Ok content
  room need e l =
      subst (λ m. (if nat_lt limit m then Err (Build (build.Full m)) else Ok content) ≡ Ok content) e
      (enough (nat_lt limit need) (grind (arith, nat_tests)))
    where
      enough : (b : Bool) → b ≡ false → (if b then Err (Build (build.Full need)) else Ok content) ≡ Ok content
      enough false j = refl
      enough true j = absurd (cc)

  -- by the room of the pool
  pub room_refuses : name_fault (uses_of r.uses.items) ≡ None → sized (filled d.value.game) ≡ Ok tt → (makes : List Make) → makes ≡ r.trees.items ++ postorder (filled d.value.game) → (live : ℕ) → live ≡ 0 → (e : ParseError) → Crowds limit live (asked (parts_weight makes)) e → Refuses e (parsed limit signs)
  room_refuses n s makes m live z e h = crowded e h
    where
      need : asked (parts_weight makes) ≡ asked (weight_of content)
      need = ap asked (weighed makes m)

      refused : (e : ParseError) → (e ≡ Build (build.Full (asked (parts_weight makes)))) × (limit < live + asked (parts_weight makes)) → parsed limit signs ≡ Err e
      refused e h = by_room n s ∙ (full (asked (parts_weight makes)) (live + asked (parts_weight makes)) need h.1 (omega arith) ∙ ap Err (sym h.0))

      crowded : (e : ParseError) → Crowds limit live (asked (parts_weight makes)) e → Refuses e (parsed limit signs)
      crowded (Syntax k) h = refused (Syntax k) h
      crowded (Nesting k) h = refused (Nesting k) h
      crowded (NameTwice k) h = refused (NameTwice k) h
      crowded (NameUnknown k) h = refused (NameUnknown k) h
      crowded (Build (build.Full k)) h = refused (Build (build.Full k)) h
      crowded (Build (build.Nodes k)) h = refused (Build (build.Nodes k)) h
      crowded (Build (build.Depth k)) h = refused (Build (build.Depth k)) h
      crowded (Build build.OutOfMemory) h = tt

  -- what was built is what the file says
  pub parses : name_fault (uses_of r.uses.items) ≡ None → sized (filled d.value.game) ≡ Ok tt → (makes : List Make) → makes ≡ r.trees.items ++ postorder (filled d.value.game) → (live : ℕ) → live + asked (parts_weight makes) ≤ limit → (trees : List KindTree) (list : List Decl) (f : File) → IsBuilt d.value trees list f.game.root → f.script ≡ range_of (length signs) d.value.script → parsed limit signs ≡ Ok (held_in trees list f)
  parses n s makes m live l trees list f b c =
      by_room n s
      ∙ (room (asked (parts_weight makes)) (ap asked (weighed makes m)) (omega arith)
      ∙ told_again (sym b.declared) (sym c) (sym b.game))

-- sizes

abbrev sized_by : Tree → Bool → Bool → Result (Unit {0}) ParseError
sized_by t a b = if a then Err (Build (build.Nodes (capped (size t)))) else if b then Err (Build (build.Depth (capped (depth t)))) else Ok tt

few_by : (t : Tree) (a b : Bool) → nat_lt most_nodes (size t) ≡ a → sized_by t a b ≡ Ok tt → size t ≤ most_nodes
few_by t false b e f = grind (arith, nat_tests)
few_by t true b e f = absurd (cc)

pub few_nodes : (t : Tree) → sized t ≡ Ok tt → size t ≤ most_nodes
few_nodes t e = few_by t (nat_lt most_nodes (size t)) (nat_lt most_depth (depth t)) refl e
