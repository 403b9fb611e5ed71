use Rattle.std.proofs.Common.{◌≡◌, Some, None, refl, sym, ap, ◌∙◌}
use Rattle.std.specs.FinMap as map
use Rattle.dsr_store.specs.Keeping.{files_of, place_from}
use Rattle.dsr_store.specs.declared.outside.Held.{Held}
use Rattle.dsr_store.proofs.Places.{insert-found, insert-absent}
use Rattle.dsr_store.proofs.keeping.put_file.Goals as goal

pub returns-in-Some-clause-ok : goal.returns-in-Some-clause-ok
returns-in-Some-clause-ok c =
    let found : place_from 0 c.args.name.now c.args.files.now.items ≡ Some c.in-Some.place = rw (← c.deref.ensures.value) (sym c.place_of.ensures.first ∙ c.in-Some.is) in
    insert-found c.args.name.now c.args.files.now.items c.in-Some.place c.index_mut.result.now c.new-content.result found c.index_mut.ensures.value
    ∙ ap (map.insert (files_of c.args.files.now.items) c.args.name.now) (c.new-content.ensures ∙ c.in_ok-from_slice.ensures.items)

pub returns-in_ok-push-in-None-clause-ok : goal.returns-in_ok-push-in-None-clause-ok
returns-in_ok-push-in-None-clause-ok c =
    let file : Held = record { name = c.new-name.result; bytes = c.new-content.result } in
    let absent : place_from 0 c.args.name.now c.args.files.now.items ≡ None = rw (← c.deref.ensures.value) (sym c.place_of.ensures.first ∙ c.in-None.is) in
    let named : c.new-name.result ≡ c.args.name.now = c.new-name.ensures ∙ c.in_ok-from_slice-in-None.ensures.items ∙ c.as_bytes.ensures.value in
    let copied : c.new-content.result ≡ c.args.bytes.now = c.new-content.ensures ∙ c.in_ok-from_slice.ensures.items in
    ap files_of c.in_ok-push-in-None.ensures.items ∙ insert-absent c.args.files.now.items file (rw named absent) ∙ rw named (rw copied refl)
