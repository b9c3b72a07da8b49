-- What is written is read back, and so no two games have the same signs.
use Rattle.std.proofs.Common.{◌≡◌, ℕ, suc, ◌≤◌, ◌+◌, max, false, List, [], ◌∷◌, ◌++◌, length, refl, ap, sym, subst, ◌∙◌, arith}
use Rattle.std.proofs.lemmas.List.{append-nil}
use Rattle.cv_syntax_trees.specs.Tree.{Tree}
use Rattle.cv_parse_notation.specs.declared.sign.Sign.{Sign}
use Rattle.cv_parse_notation.specs.Reads.{Found, Read, found, read_sort}
use Rattle.cv_parse_notation.specs.Spells.{IsSort, next_is}
use Rattle.cv_parse_notation.specs.Whole.{SpellsWith}
use Rattle.cv_parse_notation.proofs.Sorts.{spelled_is_read}
use Rattle.cv_parse_notation.proofs.Sound.{same_found}
use Rattle.cv_parse_grammar.specs.declared.role.Region.TheVariants.{InProcess}
use Rattle.cv_parse_grammar.specs.declared.role.Role.{Role}
use Rattle.cv_parse_grammar.specs.declared.role.Role.TheVariants.{Enters, Leaves}
use Rattle.cv_parse_grammar.specs.Names.{Uses}
use Rattle.cv_parse_grammar.specs.Phrases.{Sort}
use Rattle.cv_parse_grammar.specs.Phrases as sort
use Rattle.cv_parse_grammar.specs.Processes.{inputs}
use Rattle.cv_parse_grammar.specs.Rules.{heads, rule, tails}
use Rattle.cv_parse_grammar.proofs.Fitting.{all_fit}
use Rattle.cv_scope_rules.specs.Phrases.{Inputs, Term}
use Rattle.cv_print_bytes.specs.terminals.Levels.{levels_of, term_levels}
use Rattle.cv_print_bytes.specs.terminals.Parts.{part_signs, part_uses, process_part}
use Rattle.cv_print_bytes.specs.terminals.Signs.{game_signs, numbered, process_signs, term_signs}
use Rattle.cv_print_bytes.specs.terminals.Told.{game_uses, process_told, signs_in, tells, term_told, term_uses, uses_in}
use Rattle.cv_print_bytes.specs.terminals.Written.{IsWritten, opens}
use Rattle.cv_print_bytes.proofs.terminals.Constructs.{as_inputs}
use Rattle.cv_print_bytes.proofs.terminals.Games.{input_is}
use Rattle.cv_print_bytes.proofs.terminals.Pieces.{numbered_length, signs_append, uses_append}
use Rattle.cv_print_bytes.proofs.terminals.Plain.{of_term as plain}
use Rattle.cv_print_bytes.proofs.terminals.Shown.{of_process, of_term}
use Rattle.cv_print_bytes.proofs.terminals.Spelling.{never, none}
use Rattle.cv_print_bytes.proofs.terminals.Terms.{as_term, term_is}

pub term_back : (n : ℕ) (t : Tree) (rest : List Sign) → IsWritten Term t → term_levels t ≤ n → next_is opens rest ≡ false → IsSort heads rule (suc n) sort.Term (term_signs t ++ rest) t (term_uses t (length rest)) rest
unfolding IsSort
term_back n t rest w l e =
    let s : numbered 0 (signs_in (term_told t)) ≡ term_signs t = ap (numbered 0) (of_term t).same ∙ (plain t).same 0 in
    subst (λ z. IsSort heads rule (suc n) sort.Term (z ++ rest) t (term_uses t (length rest)) rest) s ((as_term (term_is t w n l)).spells 0 rest e)

pub game_back : (n finds : ℕ) (t : Tree) (rest : List Sign) → IsWritten Inputs t → levels_of t ≤ n → IsSort heads rule (suc n) sort.Inputs (numbered finds (process_signs t) ++ rest) t (game_uses t (length rest)) rest
unfolding IsSort
game_back n finds t rest w l =
    subst (λ z. IsSort heads rule (suc n) sort.Inputs (numbered finds z ++ rest) t (game_uses t (length rest)) rest) (of_process t).same ((as_inputs {stop = never} (input_is t w n l)).spells finds rest (none rest))

-- with nothing behind it

pub term_read : (n : ℕ) (t : Tree) → IsWritten Term t → term_levels t ≤ n → read_sort heads rule (suc n) sort.Term (term_signs t) ≡ found t (term_uses t 0) []
term_read n t w l =
    ap (read_sort heads rule (suc n) sort.Term) (sym (append-nil (term_signs t))) ∙ spelled_is_read heads tails rule all_fit (suc n) sort.Term (term_signs t ++ []) t (term_uses t 0) [] (term_back n t [] w l refl) refl

pub game_read : (n finds : ℕ) (t : Tree) → IsWritten Inputs t → levels_of t ≤ n → read_sort heads rule (suc n) sort.Inputs (numbered finds (process_signs t)) ≡ found t (game_uses t 0) []
game_read n finds t w l =
    ap (read_sort heads rule (suc n) sort.Inputs) (sym (append-nil (numbered finds (process_signs t)))) ∙ spelled_is_read heads tails rule all_fit (suc n) sort.Inputs (numbered finds (process_signs t) ++ []) t (game_uses t 0) [] (game_back n finds t [] w l) refl

one_value : (a b : Tree) (u v : Uses) (r : Read Role Tree) → r ≡ found a u [] → r ≡ found b v [] → a ≡ b
one_value a b u v r e f =
    let x : Found Role Tree = record { value = a; uses = u; rest = [] } in
    let y : Found Role Tree = record { value = b; uses = v; rest = [] } in
    ap (λ (z : Found Role Tree). z.value) (same_found x y (sym e ∙ f))

pub same_term : (s t : Tree) → IsWritten Term s → IsWritten Term t → term_signs s ≡ term_signs t → s ≡ t
same_term s t v w e =
    let n = max (term_levels s) (term_levels t) in
    one_value s t (term_uses s 0) (term_uses t 0) (read_sort heads rule (suc n) sort.Term (term_signs t)) (ap (read_sort heads rule (suc n) sort.Term) (sym e) ∙ term_read n s v (omega arith)) (term_read n t w (omega arith))

pub same_game : (s t : Tree) → IsWritten Inputs s → IsWritten Inputs t → game_signs s ≡ game_signs t → s ≡ t
same_game s t v w e =
    let n = max (levels_of s) (levels_of t) in
    one_value s t (game_uses s 0) (game_uses t 0) (read_sort heads rule (suc n) sort.Inputs (game_signs t)) (ap (read_sort heads rule (suc n) sort.Inputs) (sym e) ∙ game_read n 0 s v (omega arith)) (game_read n 0 t w (omega arith))

-- as the last part of a file

ends : (t : Tree) → uses_in (process_told t ++ tells Leaves) 0 ≡ game_uses t 0 ++ uses_in (tells Leaves) 0
unfolding signs_in uses_in
ends t = uses_append (process_told t) (tells Leaves) 0

so_many : (finds : ℕ) (t : Tree) → length (numbered finds (process_signs t)) ≡ length (signs_in (process_told t ++ tells Leaves)) + 0
unfolding signs_in
so_many finds t =
    let e : signs_in (process_told t ++ tells Leaves) ≡ process_signs t = signs_append (process_told t) (tells Leaves) ∙ (append-nil (signs_in (process_told t)) ∙ (of_process t).same) in
    numbered_length finds (process_signs t) ∙ (ap length (sym e) ∙ omega arith)

pub part_back : (n finds : ℕ) (t : Tree) → IsWritten Inputs t → levels_of t ≤ n → SpellsWith heads rule process_part n (part_signs finds t) t (part_uses t) []
unfolding IsSort signs_in uses_in
part_back n finds t w l =
    let toks = numbered finds (process_signs t) in
    let game : SpellsWith heads rule inputs n toks t (game_uses t 0) [] = subst (λ z. IsSort heads rule (suc n) sort.Inputs z t (game_uses t 0) []) (append-nil toks) (game_back n finds t [] w l) in
    let uses : part_uses t ≡ record { role = Enters InProcess; name = 0; left = length toks } ∷ (game_uses t 0 ++ uses_in (tells Leaves) 0) =
    ap (λ m. record { role = Enters InProcess; name = 0; left = m } ∷ uses_in (process_told t ++ tells Leaves) 0) (sym (so_many finds t)) ∙ ap (λ us. record { role = Enters InProcess; name = 0; left = length toks } ∷ us) (ends t) in (
      (tt, t),
      record {
        mid = toks;
        front = [];
        back = part_uses t;
        first = record { tokens = refl; uses = refl };
        second = (
          (length toks, (t, 0)),
          record {
            mid = toks;
            front = record { role = Enters InProcess; name = 0; left = length toks } ∷ [];
            back = game_uses t 0 ++ uses_in (tells Leaves) 0;
            first = (refl, record { tokens = refl; uses = refl });
            second = record { mid = []; front = game_uses t 0; back = uses_in (tells Leaves) 0; first = game; second = (refl, record { tokens = refl; uses = refl }); uses = refl };
            uses = uses;
          },
          refl,
        );
        uses = refl;
      },
      refl,
    )
