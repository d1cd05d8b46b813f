use Rattle.std.proofs.Common.{◌≡◌, ◌<◌, ◌/◌, sym, ◌∙◌, subst, arith}
use Rattle.chunked_vec.specs.Chunks.{HasRoom, items_in}
use Rattle.chunked_vec.proofs.Chunked.{room_there, room_begun}
use Rattle.chunked_vec.proofs.make_room.Goals as goal

pub returns-then-len-clause-room : goal.returns-then-len-clause-room
returns-then-len-clause-room g c =
    let ps = c.args.chunks.now in
    room_there ps.items c.requires.full c.args.len c.requires.all (subst (λ k. c.args.len / 4096 < k) (c.len.ensures ∙ ps.ok.0) c.if-len.true)

pub returns-clause-room : goal.returns-clause-room
returns-clause-room g c =
    let ps = c.args.chunks.now in
    let many = c.if-len.false in
    let same = c.len.ensures ∙ ps.ok.0 in
    subst (HasRoom c.args.len) (sym c.in_ok-push.ensures.items) (room_begun ps.items c.requires.full c.args.len c.requires.all (omega (arith, many, same)) c.in_ok-chunk.chunk c.in_ok-chunk.ensures).0

pub returns-clause-same : goal.returns-clause-same
returns-clause-same g c =
    let ps = c.args.chunks.now in
    let many = c.if-len.false in
    let same = c.len.ensures ∙ ps.ok.0 in
    subst (λ qs. items_in qs ≡ items_in ps.items) (sym c.in_ok-push.ensures.items) (room_begun ps.items c.requires.full c.args.len c.requires.all (omega (arith, many, same)) c.in_ok-chunk.chunk c.in_ok-chunk.ensures).1
