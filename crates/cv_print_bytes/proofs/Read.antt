-- A text's signs are those of its tokens, and so two texts are the same only for one tree.
use Rattle.std.proofs.Common.{◌≡◌, ℕ, suc, ◌≤◌, Bool, true, false, List, [], ◌++◌, length, Result, Ok, refl, ap, sym, ◌∙◌, subst}
use Rattle.std.proofs.lemmas.List.{append-nil}
use Rattle.cv_lex.specs.declared.LexError.{LexError}
use Rattle.cv_lex.specs.Lexis.{Token, tokens_of}
use Rattle.cv_lex.proofs.Exact.{said}
use Rattle.cv_parse_notation.specs.declared.sign.Sign.{Sign}
use Rattle.cv_parse_tables.specs.terminals.Signs.{no_counts, signs_from}
use Rattle.cv_parse_grammar.specs.Phrases as sort
use Rattle.cv_scope_rules.specs.Phrases.{Inputs, Term, is_phrase}
use Rattle.cv_print.specs.Games.{game_text}
use Rattle.cv_print.specs.Terms.{term_text}
use Rattle.cv_print_bytes.specs.terminals.Levels.{levels_of, term_levels}
use Rattle.cv_print_bytes.specs.terminals.Signs.{numbered, term_signs, game_signs}
use Rattle.cv_print_bytes.specs.terminals.Told.{game_uses, term_uses}
use Rattle.cv_print_bytes.specs.terminals.Written.{IsWritten}
use Rattle.cv_print_bytes.proofs.terminals.Back.{term_read, game_read, same_term, same_game}
use Rattle.cv_print_bytes.proofs.terminals.Plain.{of_term as plain}
use Rattle.cv_syntax_trees.specs.Tree.{Tree}
use Rattle.cv_print_bytes.specs.Known.{AreNames, is_named}
use Rattle.cv_print_bytes.specs.Texts.{HasSigns, IsReadAs}
use Rattle.cv_print_bytes.proofs.Fronts.{begins, Front}
use Rattle.cv_print_bytes.proofs.Named.{phrase_fits}
use Rattle.cv_print_bytes.proofs.Processes.{of_process}
use Rattle.cv_print_bytes.proofs.Shown.{Shows, shows_end}
use Rattle.cv_print_bytes.proofs.Terms.{of_term}

has_signs : {names : List (List ℕ)} {q : Bool} {text : List ℕ} {ss : List Sign} → Front names false q text ss → HasSigns names text (numbered 0 ss)
has_signs {names = names} {q = q} {text = text} {ss = ss} f =
    let v : Shows names (text ++ []) (ss ++ []) = (f.goes [] [] (begins q [] refl) (shows_end names)).1 in
    let w : Shows names text ss = subst (λ l. Shows names text l) (append-nil ss) (subst (λ b. Shows names b (ss ++ [])) (append-nil text) v) in
    record { tokens = w.tokens 0; lexed = said text (Ok (w.tokens 0)) (w.lexed 0); signed = w.signed 0 no_counts }

pub term_tokens : (names : List (List ℕ)) (t : Tree) → AreNames names → is_named (length names) t ≡ true → HasSigns names (term_text names t) (term_signs t)
term_tokens names t are k = subst (λ l. HasSigns names (term_text names t) l) ((plain t).same 0) (has_signs (of_term are t k))

pub game_tokens : (names : List (List ℕ)) (t : Tree) → AreNames names → is_named (length names) t ≡ true → is_phrase Inputs t ≡ true → HasSigns names (game_text names t) (game_signs t)
game_tokens names t are k φ = has_signs (of_process are 0 t k (phrase_fits Inputs t φ))

pub term_back : (n : ℕ) (names : List (List ℕ)) (t : Tree) → AreNames names → is_named (length names) t ≡ true → IsWritten Term t → term_levels t ≤ n → IsReadAs names (term_text names t) (suc n) sort.Term t (term_uses t 0)
term_back n names t are k w l = record { signs = term_signs t; has = term_tokens names t are k; read = term_read n t w l }

pub game_back : (n : ℕ) (names : List (List ℕ)) (t : Tree) → AreNames names → is_named (length names) t ≡ true → IsWritten Inputs t → levels_of t ≤ n → IsReadAs names (game_text names t) (suc n) sort.Inputs t (game_uses t 0)
game_back n names t are k w l = record { signs = game_signs t; has = game_tokens names t are k w.phrase; read = game_read n 0 t w l }

one_list : (names : List (List ℕ)) (a b : List ℕ) (s t : List Sign) → a ≡ b → HasSigns names a s → HasSigns names b t → s ≡ t
one_list names a b s t e x y =
    let r : Result (List Token) LexError = Ok x.tokens in
    let oks : r ≡ Ok y.tokens = sym x.lexed ∙ ap tokens_of e ∙ y.lexed in
    let same : x.tokens ≡ y.tokens = cc in
    ap (λ r. r.signs) (sym x.signed ∙ ap (signs_from names no_counts) same ∙ y.signed)

pub one_term : (names : List (List ℕ)) (s t : Tree) → AreNames names → is_named (length names) s ≡ true → is_named (length names) t ≡ true → IsWritten Term s → IsWritten Term t → term_text names s ≡ term_text names t → s ≡ t
one_term names s t are j k v w e = same_term s t v w (one_list names (term_text names s) (term_text names t) (term_signs s) (term_signs t) e (term_tokens names s are j) (term_tokens names t are k))

pub one_game : (names : List (List ℕ)) (s t : Tree) → AreNames names → is_named (length names) s ≡ true → is_named (length names) t ≡ true → IsWritten Inputs s → IsWritten Inputs t → game_text names s ≡ game_text names t → s ≡ t
one_game names s t are j k v w e = same_game s t v w (one_list names (game_text names s) (game_text names t) (game_signs s) (game_signs t) e (game_tokens names s are j v.phrase) (game_tokens names t are k w.phrase))
