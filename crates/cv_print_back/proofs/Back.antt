-- What is written is read back.
use Rattle.std.proofs.Common.{◌≡◌, ℕ, ◌+◌, ◌-◌, ◌≤◌, Bool, true, false, ◌||◌, nat_lt, List, [], ◌∷◌, ◌++◌, drop, take, length, length-append, if◌then◌else◌, refl, ap, sym, ◌∙◌, arith, Result, Ok, Err}
use Rattle.std.specs.Prelude.{max}
use Rattle.std.proofs.lemmas.List.{append-nil, take_all}
use Rattle.std.proofs.lemmas.Bool.{le-ltb}
use Rattle.cv_syntax.specs.declared.decls.Decl.{Decl}
use Rattle.cv_syntax_trees.specs.Tree.{Tree, depth, size}
use Rattle.cv_parse_tables.specs.terminals.Signs.{Signed, no_counts, signs_from}
use Rattle.cv_parse_notation.specs.declared.sign.Mark.{Mark}
use Rattle.cv_parse_notation.specs.declared.sign.Mark.TheVariants as mark
use Rattle.cv_parse_notation.specs.declared.sign.Sign.{Sign}
use Rattle.cv_parse_notation.specs.Reads.{Found, Read, found, read_sort, ◌>>=◌, joined, mapped}
use Rattle.cv_parse_notation.specs.Spells.{is_mark, kind_of, next_is, used}
use Rattle.cv_parse_notation.specs.Whole.{ends_there, reads_with}
use Rattle.cv_parse_notation.proofs.Sorts.{spelled_is_read}
use Rattle.cv_parse_grammar.specs.declared.role.Role.{Role}
use Rattle.cv_parse_grammar.specs.declared.role.Region.TheVariants.{InProcess}
use Rattle.cv_parse_grammar.specs.declared.role.Role.TheVariants.{Enters, Leaves}
use Rattle.cv_parse_grammar.specs.Files.{levels}
use Rattle.cv_parse_grammar.specs.Phrases as sort
use Rattle.cv_parse_grammar.specs.Processes.{inputs}
use Rattle.cv_parse_grammar.specs.Terms.{term}
use Rattle.cv_parse_grammar.specs.Names.{Uses}
use Rattle.cv_parse_grammar.specs.Rules.{heads, rule, tails}
use Rattle.cv_parse_grammar.proofs.Fitting.{all_fit}
use Rattle.cv_scope_rules.specs.Phrases.{Term}
use Rattle.cv_print_bytes.specs.terminals.Levels.{term_levels}
use Rattle.cv_print_bytes.specs.terminals.Signs.{game_signs, term_signs}
use Rattle.cv_print_bytes.specs.terminals.Told.{game_uses, term_uses}
use Rattle.cv_print_bytes.specs.terminals.Written.{IsWritten, opens}
use Rattle.cv_print_bytes.proofs.terminals.Back.{game_read as signs_are_game, term_back}
use Rattle.cv_print_bytes.proofs.Read.{game_tokens, term_tokens}
use Rattle.cv_syntax.specs.declared.work.BuildError.TheVariants.{Depth, Nodes}
use Rattle.cv_parse.specs.declared.error.ParseError.{ParseError}
use Rattle.cv_parse.specs.declared.error.ParseError.TheVariants.{Build}
use Rattle.cv_parse.specs.Weights.{capped}
use Rattle.cv_parse.specs.Parsed.{sized}
use Rattle.cv_syntax.specs.limits.Limits.{most_depth, most_nodes}
use Rattle.cv_parse.specs.Games.{declared_before, game_of, nodes_of, of_reading, read_process, sized_first, unless}
use Rattle.cv_parse.specs.Terms.{goes_on, names_by, names_within, of_term, roomed_term, stops, term_of}
use Rattle.cv_print_back.specs.Texts.{IsGameBack, IsProperGame, IsProperTerm, IsTermBack}
use Rattle.cv_parse.proofs.Outcomes.{room}
use Rattle.cv_parse.proofs.Reached.{term_room}

-- games

-- what is told at the ends of a phrase that is read to the end
abbrev begun : List Sign → Found Role ℕ
begun signs = record { value = length signs; uses = used (Enters InProcess) 0 signs; rest = signs }

abbrev left_at : Found Role Tree → Read Role (Tree × ℕ)
left_at y = found (length y.rest) (used Leaves 0 y.rest) y.rest >>= joined y

abbrev around : List Sign → Read Role Tree → Read Role Tree
around signs r = ((r >>= left_at) >>= joined (begun signs)) >>= mapped (λ (n, (a, m)). a) >>= ends_there

abbrev inner : List Sign → Read Role Tree
inner signs = reads_with heads rule inputs levels signs

process_around : (signs : List Sign) → read_process signs ≡ around signs (inner signs)
process_around signs = refl

inner_read : (signs : List Sign) → read_sort heads rule 200 sort.Inputs signs ≡ inner signs
unfolding read_sort
inner_read signs = refl

process_read : (t : Tree) (signs : List Sign) → read_sort heads rule 200 sort.Inputs signs ≡ found t (game_uses t 0) [] → read_process signs ≡ found t (record { role = Enters InProcess; name = 0; left = length signs } ∷ (game_uses t 0 ++ record { role = Leaves; name = 0; left = 0 } ∷ [])) []
process_read t signs e = process_around signs ∙ ap (around signs) (sym (inner_read signs) ∙ e)

abbrev sized_by : Tree → Bool → Bool → Result (Unit {0}) ParseError
sized_by t a b = if a then Err (Build (Nodes (capped (size t)))) else if b then Err (Build (Depth (capped (depth t)))) else Ok tt

fits_by : (t : Tree) (a b : Bool) → a ≡ false → b ≡ false → sized_by t a b ≡ Ok tt
fits_by t false false e f = refl
fits_by t true b e f = absurd (cc)
fits_by t false true e f = absurd (cc)

size_fits : (t : Tree) → size t ≤ most_nodes → depth t ≤ most_depth → sized t ≡ Ok tt
size_fits t h k = fits_by t (nat_lt most_nodes (size t)) (nat_lt most_depth (depth t)) (le-ltb most_nodes (size t) h) (le-ltb most_depth (depth t) k)

pub game_comes_back : (limit live : ℕ) (names : List (List ℕ)) (ds : List Decl) (t : Tree) → IsProperGame limit live names ds t → IsGameBack limit live names ds t
unfolding game_of
game_comes_back limit live names ds t p =
    let w = game_tokens names t p.known p.named p.written.phrase in
    record {
      tokens = w.tokens;
      lexed = w.lexed;
      read =
          ap (λ (s : Signed). game_of limit live ds s.signs) w.signed
          ∙ (ap (of_reading limit live (length (game_signs t)) (declared_before ds)) (process_read t (game_signs t) (signs_are_game levels 0 t p.written p.flat))
          ∙ (ap (λ o. unless limit live (length (game_signs t)) o t) p.obeys
          ∙ (ap (sized_first limit live t) (size_fits t p.small p.shallow) ∙ room limit live t p.room)));
      same = ap (λ (s : Signed). s.names) w.signed;
    }

-- terms

none_of : (p o s q d b e : Bool) → (p || (o || (s || (q || (d || (b || e)))))) ≡ false → ((o || s) ≡ false) × ((e || (q || (d || b))) ≡ false)
none_of false false false false false false false h = (refl, refl)
none_of true o s q d b e h = absurd (cc)
none_of false true s q d b e h = absurd (cc)
none_of false false true q d b e h = absurd (cc)
none_of false false false true d b e h = absurd (cc)
none_of false false false false true b e h = absurd (cc)
none_of false false false false false true e h = absurd (cc)
none_of false false false false false false true h = absurd (cc)

abbrev is_one : Mark → Sign → Bool
is_one m t = is_mark m (kind_of t)

not_next : (t : Sign) → goes_on (kind_of t) ≡ false → (opens (kind_of t) ≡ false) × (tails sort.Term (kind_of t) ≡ false)
not_next t e = none_of (is_one mark.Prime t) (is_one mark.Open t) (is_one mark.OpenSquare t) (is_one mark.Equal t) (is_one mark.Differ t) (is_one mark.Both t) (is_one mark.Either t) e

not_opens : (ts : List Sign) → next_is goes_on ts ≡ false → next_is opens ts ≡ false
not_opens [] e = refl
not_opens (t ∷ ts) e = (not_next t e).0

pub not_tails : (ts : List Sign) → next_is goes_on ts ≡ false → next_is (tails sort.Term) ts ≡ false
not_tails [] e = refl
not_tails (t ∷ ts) e = (not_next t e).1

abbrev pub whole_term : List Sign → Read Role Tree
whole_term signs = reads_with heads rule term levels signs

pub whole_read : (signs : List Sign) → read_sort heads rule 200 sort.Term signs ≡ whole_term signs
unfolding read_sort
whole_read signs = refl

pub stops_there : (t : Tree) (us : Uses) (rest : List Sign) → next_is goes_on rest ≡ false → stops (record { value = t; uses = us; rest = rest }) ≡ found t us rest
stops_there t us rest e = rw e refl

pub term_in_front : (limit live from : ℕ) (t : Tree) (rest : List Sign) → IsWritten Term t → term_levels t ≤ levels → live + nodes_of t ≤ limit → next_is goes_on rest ≡ false → term_of limit live from (term_signs t ++ rest) ≡ Ok (t, from + length (term_signs t))
unfolding term_of
term_in_front limit live from t rest w l r e =
    let ts = term_signs t ++ rest in
    let read : whole_term ts ≡ found t (term_uses t (length rest)) rest = sym (whole_read ts) ∙ spelled_is_read heads tails rule all_fit 200 sort.Term ts t (term_uses t (length rest)) rest (term_back levels t rest w l (not_opens rest e)) (not_tails rest e) in
    let all : length ts ≡ length (term_signs t) + length rest = length-append (term_signs t) rest in
    ap (λ x. of_term limit live (from + length ts) (x >>= stops)) read
    ∙ (ap (of_term limit live (from + length ts)) (stops_there t (term_uses t (length rest)) rest e)
    ∙ (ap (roomed_term limit live t) (let i : from + length ts - length rest ≡ from + length (term_signs t) = omega arith in i)
    ∙ term_room limit live t (from + length (term_signs t)) r))

within_more : (known : ℕ) (signs : List Sign) → known ≤ names_within known signs
within_more known [] = omega arith
within_more known (s ∷ signs) = let h = within_more (max known (names_by s)) signs in omega arith

pub term_comes_back : (limit live : ℕ) (names : List (List ℕ)) (t : Tree) → IsProperTerm limit live names t → IsTermBack limit live names t
term_comes_back limit live names t p =
    let w = term_tokens names t p.known p.named in
    let signed : signs_from names no_counts (drop 0 w.tokens) ≡ record { signs = term_signs t; names = names } = ap (signs_from names no_counts) (drop_none w.tokens) ∙ w.signed in
    record {
      tokens = w.tokens;
      lexed = w.lexed;
      read =
          ap (λ (s : Signed). term_of limit live 0 s.signs) signed
          ∙ (ap (term_of limit live 0) (sym (append-nil (term_signs t))) ∙ (term_in_front limit live 0 t [] p.written p.flat p.room refl ∙ ap (λ n. let r : Result (Tree × ℕ) ParseError = Ok (t, n) in r) (let i : 0 + length (term_signs t) ≡ length (term_signs t) = omega arith in i)));
      same =
          ap (λ (s : Signed). take (names_within (length names) (take (length (term_signs t) - 0) s.signs)) s.names) signed
          ∙ take_all (names_within (length names) (take (length (term_signs t) - 0) (term_signs t))) names (within_more (length names) (take (length (term_signs t) - 0) (term_signs t)));
    }
  where
    drop_none : {A : Type 0} (xs : List A) → drop 0 xs ≡ xs
    drop_none [] = refl
    drop_none (x ∷ xs) = refl
