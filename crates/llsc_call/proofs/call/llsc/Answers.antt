use Rattle.std.proofs.Common.{map, string_bytes}
use Rattle.llsc_words.specs.Request.{request_of}
use Rattle.llsc_call.proofs.Said.{Ends, call_ends, ends_cut, ends_done, ends_memory, ends_one, ends_read, ends_refused, ends_storyless, ends_told, ends_unread, ends_unwritten, ends_words, ends_write, sayable}
use Rattle.llsc_call.proofs.call.llsc.Goals as goal

pub say-status-requires : goal.say-status-requires
say-status-requires g c =
    sayable g.H.Host c.args.host.now c.answer_words-outcome.new.host (request_of (map string_bytes c.args.words.now)) c.answer_words-outcome.result.outcome c.answer_words-outcome.result.story c.answer_words-outcome.ensures.comes

pub returns : goal.returns
returns g c =
    let old = c.args.host.now in
    let new = c.say-status.new.host in
    let request = request_of (map string_bytes c.args.words.now) in
    let made = c.answer_words-outcome.result in
    let status = c.say-status.result in
    let ends : Ends g.H.Host old new request made.story status =
    call_ends g.H.Host old c.answer_words-outcome.new.host new request made.outcome made.story status c.answer_words-outcome.ensures.comes c.answer_words-outcome.ensures.writes c.say-status.ensures.says c.say-status.ensures.wanting in
    record {
      ended = ends_one g.H.Host old new request made.story status ends;
      refused = ends_refused g.H.Host old new request made.story status ends;
      words = ends_words g.H.Host old new request made.story status ends;
      done = ends_done g.H.Host old new request made.story status ends;
      complete = λ asked files is held whole unread. ends_told g.H.Host old new asked request files made.story status is held whole unread ends;
      read = ends_read g.H.Host old new request made.story status ends;
      write = ends_write g.H.Host old new request made.story status ends;
      cut = ends_cut g.H.Host old new request made.story status ends;
      no_story = ends_storyless g.H.Host old new request made.story status ends;
      write_answered = ends_unwritten g.H.Host old new request made.story status ends;
      read_answered = ends_unread g.H.Host old new request made.story status ends;
      memory = ends_memory g.H.Host old new request made.story status ends;
    }
