use Rattle.office.proofs.Boards.{all_posted, may_post}
use Rattle.office.proofs.posting.Posting.post_newest.Goals as goal

pub post-requires-clause-allowed : goal.post-requires-clause-allowed
post-requires-clause-allowed g c = may_post c.args.register.now _ c.in-Some.event.now c.requires c.newest.ensures.legal c.in-Some.ensures.newest

pub returns-in-Some : goal.returns-in-Some
returns-in-Some g c = all_posted c.args.register.now _ _ c.in-Some.event.now c.requires c.in-Some.ensures.newest c.post.ensures.posted
