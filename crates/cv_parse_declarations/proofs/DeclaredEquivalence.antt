-- What is read and heard of an equivalence.
use Rattle.std.proofs.Common.{◌≡◌, ℕ, List, [], ◌∷◌, ◌++◌, drop, reverse, refl, ap, ◌∙◌, subst, lit<, Ok}
use Rattle.cv_syntax_trees.specs.Tree.{Node}
use Rattle.cv_syntax_trees.specs.Declarations.{Equiv}
use Rattle.cv_syntax_trees.specs.declared.head.Head.TheVariants.{Equivalence}
use Rattle.cv_parse_notation.specs.declared.sign.Sign.{Sign}
use Rattle.cv_parse_notation.specs.declared.sign.Mark.TheVariants as mark
use Rattle.cv_parse_notation.specs.Form.{word, ◌&◌, ◌▸◌, ◌◂◌}
use Rattle.cv_parse_grammar.specs.declared.role.Asked.TheVariants.{AnEquivalence}
use Rattle.cv_parse_grammar.specs.declared.role.Region.TheVariants.{InEquivalence}
use Rattle.cv_parse_grammar.specs.declared.role.Role.TheVariants.{Declares}
use Rattle.cv_parse_grammar.specs.Phrases.{LeftFunction, RightFunction, inside}
use Rattle.cv_parse_grammar.specs.Declarations.{equiv_decl, probability}
use Rattle.cv_parse_grammar.specs.Equivalences.{group}
use Rattle.cv_parse_terms.specs.declared.lookahead.ReadError.{ReadError}
use Rattle.cv_parse_terms.specs.declared.trail.Trail.{Trail}
use Rattle.cv_parse_terms.specs.Gives.{Fails, read_in}
use Rattle.cv_parse_terms.specs.Tables.{Stops, last_name, row_in, waits, work_of}
use Rattle.cv_parse_terms.specs.TermRows.{EntersWith, row_count, term_rows}
use Rattle.cv_parse_terms.proofs.Saying.{grows}
use Rattle.cv_parse_declarations.specs.declared.signature.heard.Heard.{Heard}
use Rattle.cv_parse_declarations.specs.declared.signature.heard.Heard.TheVariants as heard
use Rattle.cv_parse_declarations.specs.signature.Declares.{IsDeclared}
use Rattle.cv_parse_declarations.proofs.signature.Declaring.{Told, not_told, told}
use Rattle.cv_parse_declarations.proofs.signature.Listed.{is_there, one_made}
use Rattle.cv_parse_declarations.proofs.Says.{says_equivalence}

abbrev hear : List ℕ → List Heard
hear xs = heard.Equiv (last_name xs) ∷ []

of_equivalence : (n : ℕ) → Told n 210 hear (mark.Equiv ▸ (word (Declares AnEquivalence) & inside InEquivalence (group LeftFunction & (probability & group RightFunction))) ◂ mark.Dot) (λ (x, (l, (p, r))). Equiv x (Node (Equivalence p) l r) ∷ []) (λ c q. grows (Node (Equivalence c.1.1.0) c.1.0 c.1.1.1) (waits c.0 q))
of_equivalence n = record {
  within = lit< tt;
  says = says_equivalence n;
  hears = λ c q h. refl;
  makes = λ c q. one_made (Equiv c.0 (Node (Equivalence c.1.1.0) c.1.0 c.1.1.1)) q.makes _ refl;
  whole = λ ts x i. (is_there (Equivalence x.value.1.1.0) x.value.1.0 x.value.1.1.1, tt);
}

pub equivalence_declared : (n : ℕ) (all : List Sign) (at end x : ℕ) (old new : Trail) (ms ns : List ℕ) (before after : List Heard) → ms ≡ [] → EntersWith 210 n all at old ms (Ok end) new ns → x ≡ last_name (reverse ns) → after ≡ before ++ heard.Equiv x ∷ [] → IsDeclared all old new before after (read_in n equiv_decl (drop at all)) end
equivalence_declared n all at end x old new ms ns before after e d i h =
    told (of_equivalence n) all at end old new ns before after (subst (λ l. EntersWith 210 n all at old l (Ok end) new ns) e d) (h ∙ ap (λ y. before ++ heard.Equiv y ∷ []) i)

pub equivalence_fails : (n : ℕ) (all : List Sign) (at : ℕ) (old : Trail) (ms : List ℕ) (x : ReadError) → ms ≡ [] → Stops all x (row_in term_rows n row_count 210 (work_of old ms (drop at all))) → Fails all x (read_in n equiv_decl (drop at all))
equivalence_fails n all at old ms x e h = not_told (of_equivalence n) all at old x (subst (λ l. Stops all x (row_in term_rows n row_count 210 (work_of old l (drop at all)))) e h)
