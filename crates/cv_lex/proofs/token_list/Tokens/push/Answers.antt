use Rattle.std.proofs.Common.{◌≡◌, ◌++◌, ◌∷◌, [], ◌+◌, length, arith, ap, sym, ◌∙◌, Result, Ok, Err, OnErr, length-append}
use Rattle.std.proofs.lemmas.List.{length_push, length-map}
use Rattle.std.specs.Prelude.{string_bytes}
use Rattle.cv_lex.specs.Lexis.{end_token}
use Rattle.cv_lex.specs.View.{token_in, tokens_in}
use Rattle.cv_lex.proofs.Pieces.{token_ascii}
use Rattle.cv_lex.proofs.Listing.{tokens_in_append, whole_append, tokens_in_added, whole_added, with_token_append}
use Rattle.cv_lex.proofs.token_list.Tokens.push.Goals as goal
use Rattle.cv_lex.proofs.token_list.Tokens.push.Goals.{In_ok-push}

pub invariant_of-self-in_err-push : goal.invariant_of-self-in_err-push
invariant_of-self-in_err-push c =
    rw (c.in_ok-push_str.ensures.bytes, c.in_err-push.ensures.items)
    (whole_append _ c.args.text.now _ c.self.invariant (token_ascii c.args.kind c.args.text.now c.requires.token))

on_err : {X E P : Type 0} (r : Result X E) → P → OnErr r P
on_err (Ok x) p = tt
on_err (Err e) p = p

pub returns-in_err-push-clause-err : goal.returns-in_err-push-clause-err
returns-in_err-push-clause-err c =
    on_err c.from_residual-in_err-push.result
    (rw (c.in_ok-push_str.ensures.bytes, c.in_err-push.ensures.items)
    (ap (λ ts. ts ++ end_token c.self.inside.end ∷ []) (tokens_in_append (string_bytes c.self.inside.buffer) c.args.text.now c.self.inside.entries.items c.self.invariant.within) ∙ c.self.view_is))

-- the text lies behind the buffer
start_is : (c : In_ok-push) → c.len-start.result ≡ length (string_bytes c.self.inside.buffer)
start_is c = c.len-start.ensures ∙ c.self.inside.buffer.bytes.ok.0

end_is : (c : In_ok-push) → c.len-end.result ≡ length (string_bytes c.self.inside.buffer) + length c.args.text.now
end_is c =
    c.len-end.ensures ∙ c.push_str.new.self.bytes.ok.0 ∙ ap length c.in_ok-push_str.ensures.bytes ∙ length-append (string_bytes c.self.inside.buffer) c.args.text.now

entries_are : (c : In_ok-push) → c.push.new.self.items ≡ c.self.inside.entries.items ++ record { kind = c.args.kind; offset = c.args.offset; start = length (string_bytes c.self.inside.buffer); end = length (string_bytes c.self.inside.buffer) + length c.args.text.now } ∷ []
entries_are c =
    c.in_ok-push.ensures.items
    ∙ (λ i. c.self.inside.entries.items ++ record { kind = c.args.kind; offset = c.args.offset; start = start_is c i; end = end_is c i } ∷ [])

pub invariant_of-self-2 : goal.invariant_of-self-2
invariant_of-self-2 c =
    let room = c.requires.room in
    let old : length (tokens_in (string_bytes c.self.inside.buffer) c.self.inside.entries.items ++ end_token c.self.inside.end ∷ []) ≡ length c.args.self.now = ap length c.self.view_is in
    let count = length_push (tokens_in (string_bytes c.self.inside.buffer) c.self.inside.entries.items) (end_token c.self.inside.end) in
    let entries = length-map c.self.inside.entries.items (token_in (string_bytes c.self.inside.buffer)) in
    rw (c.in_ok-push_str.ensures.bytes, entries_are c)
    (whole_added (string_bytes c.self.inside.buffer) c.args.text.now c.self.inside.entries.items c.args.kind c.args.offset c.self.invariant c.requires.token (token_ascii c.args.kind c.args.text.now c.requires.token) (omega arith))

pub returns-clause-ok : goal.returns-clause-ok
returns-clause-ok c =
    rw (c.in_ok-push_str.ensures.bytes, entries_are c, ← c.self.view_is)
    (ap (λ ts. ts ++ end_token c.self.inside.end ∷ []) (tokens_in_added (string_bytes c.self.inside.buffer) c.args.text.now c.self.inside.entries.items c.args.kind c.args.offset c.self.invariant)
    ∙ sym (with_token_append (tokens_in (string_bytes c.self.inside.buffer) c.self.inside.entries.items) (end_token c.self.inside.end) (record { kind = c.args.kind; text = c.args.text.now; offset = c.args.offset })))
