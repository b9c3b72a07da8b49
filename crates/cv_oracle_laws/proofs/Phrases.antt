-- Each phrase, in turn.
use Rattle.std.proofs.Common.{◌≡◌, List, [], ◌∷◌, ◌++◌, codes, refl, ap, sym, arith}
use Rattle.std.specs.Str.{bytes_eq}
use Rattle.std.proofs.lemmas.Bool.{both_ways}
use Rattle.std.proofs.lemmas.List.{append_assoc}
use Rattle.cv_lex.specs.Lexis.{Token}
use Rattle.cv_oracles.specs.declared.form.Mode.TheVariants as mode
use Rattle.cv_oracles.specs.declared.frames.Opening.TheVariants.{Parenthesis, If, Find}
use Rattle.cv_oracle_laws.specs.Tokens.{word, symbol}
use Rattle.cv_oracle_laws.specs.Grammar.{Sort, Stands, lone, beside, nought, bracketed, foreach, definition, ending, parentheses, returning, sending, stopping, continuing, drawing, binding, recording, testing, finding, nothing, otherwise, last, orfind}
use Rattle.cv_oracle_laws.proofs.Runs.{at, open_as, stay, both, ends}
use Rattle.cv_oracle_laws.proofs.Moves.{at_text, moves, input_opens, input_repeats, input_defines, input_ends, output_opens, output_ends, output_returns, output_sends, output_records, output_tests, output_finds, output_draws, output_binds}
use Rattle.cv_oracle_laws.proofs.Forward.{Holds, nothing_left, all_both, all_with, to, from, variables, a_test, a_line, a_term, matched, payload_opens, keeps_index, keeps_below, keeps_bound, keeps_type, closes_here, or_finds, others}

pub forward : {s : Sort} {ts ws os rest : List Token} → Stands s ts ws os rest → Holds s ts ws os rest
forward (lone d) = λ o fs. let l = forward d o fs in record { oracle = l.oracle; more = l.more; tests = l.left.tests; goes = l.goes }
forward (beside {ts} {fs = ws} {os} {us} {gs} {ps} {rest} bar d b e) = λ o fs.
    let l = forward d o fs in
    let r = forward e l.oracle (l.more ++ fs) in
    let here = at mode.Behind l.oracle (l.more ++ fs) in
    record {
      oracle = r.oracle;
      more = r.more ++ l.more;
      tests = all_both _ r.more l.more r.tests l.left.tests;
      goes = to (sym (append_assoc r.more l.more fs)) (both l.goes (both (at_text here bar us (codes "|") (moves (bar ∷ []) [] (at mode.Input l.oracle (l.more ++ fs))) b refl) r.goes));
    }
forward (nought {t} {rest} k l) = λ o fs. record { oracle = o; more = []; left = nothing_left rest; goes = input_ends o fs t rest k l }
forward (bracketed {opener} {closer} {ts} {fs = ws} {os} {rest} a d b) = λ o fs.
    let l = forward d o (open_as Parenthesis o ∷ fs) in
    record {
      oracle = l.oracle;
      more = [];
      left = nothing_left rest;
      goes = both (input_opens o fs opener ts a) (ends l.goes (closes_here o fs l.more l.oracle closer rest l.tests b));
    }
forward (foreach {head} {i} {most} {n} {does} {ts} {fs = ws} {os} {rest} a b c e f d) = λ o fs.
    let l = forward d o fs in
    record {
      oracle = l.oracle;
      more = l.more;
      left = l.left;
      goes =
          both (input_repeats o fs head (i ∷ most ∷ n ∷ does ∷ ts) a) (both (keeps_index o fs i (most ∷ n ∷ does ∷ ts) b) (both (keeps_below o fs most (n ∷ does ∷ ts) c) (both (keeps_bound o fs n (does ∷ ts) e)
          (both (at_text (at mode.Do o fs) does ts (codes "do") (moves [] [] (at mode.Input o fs)) f refl) l.goes))));
    }
forward (definition {o} {opener} vs closer becomes ts ws os rest a b c e f d) = λ p fs.
    let l = forward d fs in
    record {
      oracle = l.oracle;
      more = l.more;
      left = l.left;
      goes =
          both (input_defines p fs o (opener ∷ vs ++ closer ∷ becomes ∷ ts) a)
          (both (at_text (at mode.Head o fs) opener (vs ++ closer ∷ becomes ∷ ts) (codes "(") (moves (opener ∷ []) [] (at mode.Variables o fs)) b refl)
          (both (variables o fs vs (closer ∷ becomes ∷ ts) c)
          (both (at_text (at mode.Variables o fs) closer (becomes ∷ ts) (codes ")") (moves (closer ∷ []) [] (at mode.Defines o fs)) e refl)
          (both (at_text (at mode.Defines o fs) becomes ts (codes ":=") (moves (symbol (codes ")") ∷ symbol (codes ";") ∷ []) [] (at mode.Output o fs)) f refl) l.goes))));
    }
forward (ending {o} {t} {rest} a) = λ fs. record { oracle = o; more = []; left = nothing_left rest; goes = output_ends o fs t rest a }
forward (parentheses {o} {opener} {closer} {ts} {fs = ws} {os} {rest} a d b) = λ fs.
    let l = forward d (open_as Parenthesis o ∷ fs) in
    record {
      oracle = l.oracle;
      more = [];
      left = nothing_left rest;
      goes = both (output_opens o fs opener ts a) (ends l.goes (closes_here o fs l.more l.oracle closer rest l.left.tests b));
    }
forward (returning {o} {head} {ts} {fs = ws} {os} {rest} a b d) = λ fs.
    let l = forward d o fs in
    record { oracle = l.oracle; more = l.more; left = l.left; goes = both (output_returns o fs head ts a b) l.goes }
forward (sending {o} {head} {opener} ms closer ts ws os rest a b c e d) = λ fs.
    let l = forward d o fs in
    record {
      oracle = l.oracle;
      more = l.more;
      left = l.left;
      goes =
          both (output_sends o fs head opener (ms ++ closer ∷ ts) a b)
          (both (payload_opens o fs 0 opener (ms ++ closer ∷ ts) (omega arith) b)
          (both (matched o fs 0 ms (closer ∷ ts) c)
          (both (at_text (at (mode.Payload 1) o fs) closer ts (codes ")") (moves (symbol (codes ")") ∷ symbol (codes ")") ∷ []) [] (at mode.Behind o fs)) e refl) l.goes)));
    }
forward (stopping {o} {rest}) = λ p fs. record { oracle = p; more = []; left = nothing_left rest; goes = stay (at mode.Behind p fs) rest }
forward (continuing {o} {semicolon} {ts} a d) = λ p fs.
    let l = forward d p fs in
    record { oracle = l.oracle; more = l.more; left = l.left; goes = both (at_text (at mode.Behind p fs) semicolon ts (codes ";") (moves (semicolon ∷ []) [] (at mode.Input p fs)) a refl) l.goes }
forward (drawing {o} {x} {arrow} {R} {T} {semicolon} {ts} a b c e f g d) = λ fs.
    let l = forward d fs in
    record {
      oracle = l.oracle;
      more = l.more;
      left = l.left;
      goes =
          both (output_draws o fs x arrow (R ∷ T ∷ semicolon ∷ ts) a b)
          (both (at_text (at mode.Arrow o fs) arrow (R ∷ T ∷ semicolon ∷ ts) (codes "<-") (moves [] [] (at mode.Random o fs)) b refl)
          (both (at_text (at mode.Random o fs) R (T ∷ semicolon ∷ ts) (codes "R") (moves [] [] (at mode.Line o fs)) c refl)
          (both (a_line o fs (T ∷ []) (semicolon ∷ ts) ((e, f), tt))
          (both (at_text (at mode.Line o fs) semicolon ts (codes ";") (moves (semicolon ∷ []) [] (at mode.Output o fs)) g refl) l.goes))));
    }
forward (binding {o} {x} {colon} {T} {arrow} ms semicolon ts ws os rest a b c e f g d) = λ fs.
    let l = forward d fs in
    record {
      oracle = l.oracle;
      more = l.more;
      left = l.left;
      goes =
          both (output_binds o fs x colon (T ∷ arrow ∷ ms ++ semicolon ∷ ts) a b)
          (both (at_text (at mode.Colon o fs) colon (T ∷ arrow ∷ ms ++ semicolon ∷ ts) (codes ":") (moves (colon ∷ []) [] (at mode.OfType o fs)) b refl)
          (both (keeps_type o fs T (arrow ∷ ms ++ semicolon ∷ ts) c)
          (both (at_text (at mode.Gets o fs) arrow (ms ++ semicolon ∷ ts) (codes "<-") (moves (symbol (codes "=") ∷ []) [] (at mode.Term o fs)) e refl)
          (both (a_term o fs ms (semicolon ∷ ts) f)
          (both (at_text (at mode.Term o fs) semicolon ts (codes ";") (moves (word (codes "in") ∷ []) [] (at mode.Output o fs)) g refl) l.goes)))));
    }
forward (recording {o} {head} ms semicolon ts ws os rest a b c d) = λ fs.
    let l = forward d fs in
    record {
      oracle = l.oracle;
      more = l.more;
      left = l.left;
      goes =
          both (output_records o fs head (ms ++ semicolon ∷ ts) a)
          (both (a_line o fs ms (semicolon ∷ ts) b) (both (at_text (at mode.Line o fs) semicolon ts (codes ";") (moves (semicolon ∷ []) [] (at mode.Output o fs)) c refl) l.goes));
    }
forward (testing {o} {head} ms mid ts ws os us gs ps rest a b c d e) = λ fs.
    let l = forward d (open_as If o ∷ fs) in
    let r = forward e l.oracle l.more (open_as If o) fs (record { oracle = refl; test = refl; no_parenthesis = refl; left = l.left; no_orfind = λ h. refl }) in
    record {
      oracle = r.oracle;
      more = r.more;
      left = r.left;
      goes =
          both (output_tests o fs head (ms ++ mid ∷ ts) a)
          (both (a_test o (open_as If o ∷ fs) ms (mid ∷ ts) b)
          (both (at_text (at mode.Test o (open_as If o ∷ fs)) mid ts (codes "then") (moves (mid ∷ []) [] (at mode.Output o (open_as If o ∷ fs))) c refl) (both l.goes r.goes)));
    }
forward (finding {o} {head} {ts} {fs = ws} {os} {us} {gs} {ps} {rest} a d e) = λ fs.
    let l = forward d fs in
    let r = forward e l.oracle l.more (open_as Find o) fs (record { oracle = refl; test = refl; no_parenthesis = refl; left = l.left; no_orfind = λ h. absurd (both_ways _ l.lack h) }) in
    record { oracle = r.oracle; more = r.more; left = r.left; goes = both (output_finds o fs head ts a) (both l.goes r.goes) }
forward (nothing {o} {rest} a) = λ p more f fs i. record {
  oracle = p;
  more = more ++ f ∷ [];
  left = record {
    tests = all_with _ more f i.left.tests i.no_parenthesis;
    no_else = λ h. absurd (both_ways _ a h);
    no_orfind = λ h. all_with _ more f (i.left.no_orfind h) (i.no_orfind h);
  };
  goes = to (sym (append_assoc more (f ∷ []) fs)) (stay (at mode.Behind p (more ++ f ∷ fs)) rest);
}
forward (otherwise {o} {head} {ts} a d) = λ p more f fs i.
    let l = forward d fs in
    let none : more ≡ [] = i.left.no_else (ap (λ x. bytes_eq x (codes "else")) a) in
    record { oracle = l.oracle; more = l.more; left = l.left; goes = from (ap (λ x. x ++ f ∷ fs) none) (both (others o fs p f head ts i.oracle i.test a) l.goes) }
forward (last {o} ms mid ts ws os rest a b d c) = λ fs.
    let l = forward d (open_as Find o ∷ fs) in
    record {
      oracle = l.oracle;
      more = l.more;
      left = l.left;
      lack = c;
      goes =
          both (a_test o (open_as Find o ∷ fs) ms (mid ∷ ts) a)
          (both (at_text (at mode.Test o (open_as Find o ∷ fs)) mid ts (codes "then") (moves (mid ∷ []) [] (at mode.Output o (open_as Find o ∷ fs))) b refl) l.goes);
    }
forward (orfind {o} ms mid ts ws os again us gs ps rest a b d c e) = λ fs.
    let l = forward d (open_as Find o ∷ fs) in
    let r = forward e fs in
    record {
      oracle = r.oracle;
      more = r.more;
      left = r.left;
      lack = r.lack;
      goes =
          both (a_test o (open_as Find o ∷ fs) ms (mid ∷ ts) a)
          (both (at_text (at mode.Test o (open_as Find o ∷ fs)) mid ts (codes "then") (moves (mid ∷ []) [] (at mode.Output o (open_as Find o ∷ fs))) b refl)
          (both l.goes (both (or_finds o fs l.more l.oracle again us (l.left.no_orfind (ap (λ x. bytes_eq x (codes "orfind")) c)) c) r.goes)));
    }
